use Rattle.std.proofs.{Common.{◌++◌, ap, arith, length, refl}, lemmas.Result.err_from_is_err_and}
use Rattle.fault_model.specs.Fault.{FaultList}
use Rattle.region_runs.specs.RunJobs.{RunView}
use Rattle.analysis_reports.specs.{Detected.detection_report, Histogram.{histogram, histogram_text}}
use Rattle.analysis_reports.proofs.histogram.write_histogram_of_run.Goals as goal

pub histogram_of-requires : goal.histogram_of-requires
histogram_of-requires g c =
    let kept = ap (λ (l : FaultList). length l.list) c.job-job.ensures.list in
    let same = ap (λ (r : RunView). length r.whole.list.list) c.in_ok-counts.ensures.same in
    let listed = ap (λ (l : FaultList). length l.list) c.requires.job.list in
    let own = ap (λ (l : FaultList). length l.list) c.faults.ensures.part in
    omega (
      arith,
      ap length c.deref.ensures.value,
      c.in_ok-counts.ensures.counts.count,
      kept,
      same,
      listed,
      own,
      c.count-faults.ensures,
      c.count-faults.type_inv,
    )

pub returns-in_err-write_both-clause-written : goal.returns-in_err-write_both-clause-written
returns-in_err-write_both-clause-written g c =
    let p = err_from_is_err_and c.from_residual-in_err-write_both.result
    c.from_residual-in_err-write_both.ensures.1 in
    let job = c.args.run.now.whole in
    let counts = c.in_ok-counts.counts.items in
    let made = rw (c.deref.ensures.value) at c.in-Ok.ensures in
    let wrote = rw (
      c.deref-2.ensures.value,
      c.deref-3.ensures.value,
      made,
      c.job-job.ensures.list,
      c.job-job.ensures.circuit,
      c.in_ok-counts.ensures.same,
    ) at c.in_err-write_both.ensures in
    rw (p.1, p.2) (
      detection_report job.list.model job.circuit c.args.most counts c.args.list
          ++ histogram_text (histogram c.args.most counts),
      (counts, c.in_ok-counts.ensures.counts, refl),
      wrote,
    )

pub returns-clause-written : goal.returns-clause-written
returns-clause-written g c =
    let job = c.args.run.now.whole in
    let counts = c.in_ok-counts.counts.items in
    let made = rw (c.deref.ensures.value) at c.in-Ok.ensures in
    let wrote = rw (
      c.deref-2.ensures.value,
      c.deref-3.ensures.value,
      made,
      c.job-job.ensures.list,
      c.job-job.ensures.circuit,
      c.in_ok-counts.ensures.same,
    ) at c.in_ok-write_both.ensures in (
      detection_report job.list.model job.circuit c.args.most counts c.args.list
          ++ histogram_text (histogram c.args.most counts),
      (counts, c.in_ok-counts.ensures.counts, refl),
      wrote,
    )
