use Rattle.std.proofs.lemmas.Result.{err_from_is_err_and}
use Rattle.byte_output.proofs.Public.{takes_more, stopped_before, stopped_after}
use Rattle.report.proofs.in_threads.write_report_in_threads.Goals as goal

pub returns-in_err-put_report_in_threads : goal.returns-in_err-put_report_in_threads
returns-in_err-put_report_in_threads g c =
    let p = err_from_is_err_and c.from_residual.result c.from_residual.ensures.1 in
    rw (p.1) (stopped_before _ _ _ _ c.in_err-put_report_in_threads.ensures)

pub returns-in_err-put_class_coverage : goal.returns-in_err-put_class_coverage
returns-in_err-put_class_coverage g c =
    let p = err_from_is_err_and c.from_residual-in_err-put_class_coverage.result
    c.from_residual-in_err-put_class_coverage.ensures.1 in
    rw (p.1) (stopped_after _ _ _ _ _ c.in_ok-put_report_in_threads.ensures
    c.in_err-put_class_coverage.ensures)

pub returns : goal.returns
returns g c = takes_more _ _ _ _ _ c.in_ok-put_report_in_threads.ensures
    c.in_ok-put_class_coverage.ensures
