use Rattle.std.proofs.lemmas.Result.{err_from_is_err_and}
use Rattle.byte_output.proofs.Public.{stopped_after, stopped_before, takes_more}
use Rattle.analysis_reports.proofs.blocks.put_blocks.Goals as goal

pub returns-in_err-put_coverage : goal.returns-in_err-put_coverage
returns-in_err-put_coverage g c =
    let p = err_from_is_err_and c.from_residual.result c.from_residual.ensures.1 in
    rw (p.1) (stopped_before _ _ _ _ c.in_err-put_coverage.ensures)

pub returns-in_err-put_lines : goal.returns-in_err-put_lines
returns-in_err-put_lines g c =
    let p = err_from_is_err_and c.from_residual-in_err-put_lines.result
    c.from_residual-in_err-put_lines.ensures.1 in
    rw (p.1) (stopped_after _ _ _ _ _ c.in_ok-put_coverage.ensures c.in_err-put_lines.ensures)

pub returns : goal.returns
returns g c = takes_more _ _ _ _ _ c.in_ok-put_coverage.ensures c.in_ok-put_lines.ensures
