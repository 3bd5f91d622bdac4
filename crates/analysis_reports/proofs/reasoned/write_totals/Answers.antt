use Rattle.std.proofs.lemmas.Result.{err_from_is_err_and}
use Rattle.byte_output.proofs.Public.{stopped_after, stopped_before, takes_more}
use Rattle.analysis_reports.proofs.reasoned.write_totals.Goals as goal

pub returns-in_err-write_report_with : goal.returns-in_err-write_report_with
returns-in_err-write_report_with g c =
    let p = err_from_is_err_and c.from_residual.result c.from_residual.ensures.1 in
    rw (p.1) (stopped_before _ _ _ _ c.in_err-write_report_with.ensures)

pub returns-in_err-put_reason_counts : goal.returns-in_err-put_reason_counts
returns-in_err-put_reason_counts g c =
    let p = err_from_is_err_and c.from_residual-in_err-put_reason_counts.result
    c.from_residual-in_err-put_reason_counts.ensures.1 in
    rw (p.1) (stopped_after _ _ _ _ _ c.in_ok-write_report_with.ensures
    c.in_err-put_reason_counts.ensures)

pub returns : goal.returns
returns g c = takes_more _ _ _ _ _ c.in_ok-write_report_with.ensures
    c.in_ok-put_reason_counts.ensures
