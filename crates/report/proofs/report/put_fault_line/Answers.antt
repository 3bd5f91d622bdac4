use Rattle.std.{proofs.Common.{◌++◌, append_assoc, sym}, specs.Prelude.codes}
use Rattle.std.proofs.lemmas.Result.{err_from_is_err_and}
use Rattle.byte_output.proofs.Public.{stopped, stopped_before, writes_same, writes_then}
use Rattle.report.proofs.report.put_fault_line.Goals as goal

pub returns-in_err-put_fault : goal.returns-in_err-put_fault
returns-in_err-put_fault g c = λ f at.
    let p = err_from_is_err_and c.from_residual.result c.from_residual.ensures.1 in
    rw (p.1) (stopped_before _ _ _ _ (c.in_err-put_fault.ensures f at))

pub returns-in_err-put_both : goal.returns-in_err-put_both
returns-in_err-put_both g c = λ f at.
    let p = err_from_is_err_and c.from_residual-in_err-put_both.result
    c.from_residual-in_err-put_both.ensures.1 in
    rw (p.1) (stopped _ (codes " " ++ c.args.word.now) (c.args.said.now ++ codes "\n") _ _ _ _
    (c.in_ok-put_fault.ensures f at) c.in_err-put_both.ensures (sym (simp append_assoc)))

pub returns : goal.returns
returns g c = λ f at. writes_then _ _ _ _ _ _ (c.in_ok-put_fault.ensures f at)
    (writes_same _ _ _ _ _ (simp append_assoc) (writes_then _ _ _ _ _ _
    c.in_ok-put_both.ensures c.put_both-2.ensures))
