use Rattle.std.proofs.lemmas.Result.{err_from_is_err_and}
use Rattle.byte_output.proofs.Public.{stopped_before, writes_then}
use Rattle.analysis_reports.proofs.reasoned.write_reasons.Goals as goal

pub returns-in_err-put_reasons : goal.returns-in_err-put_reasons
returns-in_err-put_reasons g c =
    let p = err_from_is_err_and c.from_residual.result c.from_residual.ensures.1 in
    let wrote = rw (c.circuit-circuit.ensures.part, c.faults-list.ensures.part) at
    c.in_err-put_reasons.ensures in
    rw (p.1) (stopped_before _ _ _ _ wrote)

pub returns : goal.returns
returns g c =
    let wrote = rw (c.circuit-circuit.ensures.part, c.faults-list.ensures.part) at
    c.in_ok-put_reasons.ensures in
    writes_then _ _ _ _ _ _ wrote c.write_totals.ensures
