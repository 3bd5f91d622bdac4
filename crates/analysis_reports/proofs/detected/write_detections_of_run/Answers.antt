use Rattle.std.proofs.{Common.refl, lemmas.Result.err_from_is_err_and}
use Rattle.analysis_reports.specs.Detected.{detection_report}
use Rattle.analysis_reports.proofs.detected.write_detections_of_run.Goals as goal

pub returns-in_err-write_detections-clause-written :
    goal.returns-in_err-write_detections-clause-written
returns-in_err-write_detections-clause-written g c =
    let p = err_from_is_err_and c.from_residual-in_err-write_detections.result
    c.from_residual-in_err-write_detections.ensures.1 in
    let job = c.args.run.now.whole in
    let counts = c.in_ok-counts.counts.items in
    let wrote = rw (
      c.as_slice.ensures.value,
      c.job.ensures.list,
      c.job.ensures.circuit,
      c.in_ok-counts.ensures.same,
    ) at c.in_err-write_detections.ensures in
    rw (p.1, p.2) (
      detection_report job.list.model job.circuit c.args.most counts c.args.list,
      (counts, c.in_ok-counts.ensures.counts, refl),
      wrote,
    )

pub returns-clause-written : goal.returns-clause-written
returns-clause-written g c =
    let job = c.args.run.now.whole in
    let counts = c.in_ok-counts.counts.items in
    let wrote = rw (
      c.as_slice.ensures.value,
      c.job.ensures.list,
      c.job.ensures.circuit,
      c.in_ok-counts.ensures.same,
    ) at c.in_ok-write_detections.ensures in (
      detection_report job.list.model job.circuit c.args.most counts c.args.list,
      (counts, c.in_ok-counts.ensures.counts, refl),
      wrote,
    )
