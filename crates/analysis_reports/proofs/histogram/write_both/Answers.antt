use Rattle.std.proofs.lemmas.Result.{err_from_is_err_and}
use Rattle.byte_output.proofs.Public.{stopped_after, stopped_before}
use Rattle.analysis_reports.specs.Histogram.{histogram_text}
use Rattle.analysis_reports.proofs.histogram.write_both.Goals as goal

pub returns-in_err-write_detections : goal.returns-in_err-write_detections
returns-in_err-write_detections g c =
    let p = err_from_is_err_and c.from_residual.result c.from_residual.ensures.1 in
    rw (p.1) (stopped_before _ (histogram_text c.args.faults.now) _ _
    c.in_err-write_detections.ensures)

pub returns-in_err-put_histogram : goal.returns-in_err-put_histogram
returns-in_err-put_histogram g c =
    let p = err_from_is_err_and c.from_residual-in_err-put_histogram.result
    c.from_residual-in_err-put_histogram.ensures.1 in
    rw (p.1) (stopped_after _ _ _ _ _ c.in_ok-write_detections.ensures
    c.in_err-put_histogram.ensures)
