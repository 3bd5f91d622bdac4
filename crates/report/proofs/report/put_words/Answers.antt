use Rattle.std.proofs.{Common.{◌++◌, append_assoc, sym}, lemmas.Result.err_from_is_err_and}
use Rattle.byte_output.proofs.Public.{stopped, stopped_before, writes_same, writes_then}
use Rattle.report.proofs.report.put_words.Goals as goal

pub returns-in_err-put_both : goal.returns-in_err-put_both
returns-in_err-put_both g c =
    let p = err_from_is_err_and c.from_residual.result c.from_residual.ensures.1 in
    rw (p.1, ← append_assoc) (stopped_before _ _ _ _ c.in_err-put_both.ensures)

pub returns-in_err-put_both-2 : goal.returns-in_err-put_both-2
returns-in_err-put_both-2 g c =
    let p = err_from_is_err_and c.from_residual-in_err-put_both-2.result
    c.from_residual-in_err-put_both-2.ensures.1 in
    rw (p.1) (stopped (c.args.kind.now ++ c.args.name.now) (c.args.gap.now ++ c.args.place.now)
    c.args.defect.now _ _ _ _ c.in_ok-put_both.ensures c.in_err-put_both-2.ensures
    (sym (simp append_assoc)))

pub returns : goal.returns
returns g c = writes_same _ _ _ _ _ (simp append_assoc) (writes_then _ _ _ _ _ _
    c.in_ok-put_both.ensures (writes_then _ _ _ _ _ _ c.in_ok-put_both-2.ensures
    c.put_text.ensures))
