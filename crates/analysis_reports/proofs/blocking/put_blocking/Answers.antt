use Rattle.std.proofs.lemmas.Result.{err_from_is_err_and}
use Rattle.byte_output.proofs.Public.{stopped_after, stopped_before, takes_more}
use Rattle.analysis_reports.proofs.blocking.put_blocking.Goals as goal

pub returns-in_err-put_coverage : goal.returns-in_err-put_coverage
returns-in_err-put_coverage g c =
    let p = err_from_is_err_and c.from_residual.result c.from_residual.ensures.1 in
    rw (p.1) (stopped_before _ _ _ _ c.in_err-put_coverage.ensures)

pub returns-in_err-put_pins : goal.returns-in_err-put_pins
returns-in_err-put_pins g c =
    let p = err_from_is_err_and c.from_residual-in_err-put_pins.result
    c.from_residual-in_err-put_pins.ensures.1 in
    rw (p.1) (stopped_after _ _ _ _ _ c.in_ok-put_coverage.ensures c.in_err-put_pins.ensures)

pub returns : goal.returns
returns g c = takes_more _ _ _ _ _ c.in_ok-put_coverage.ensures c.in_ok-put_pins.ensures
