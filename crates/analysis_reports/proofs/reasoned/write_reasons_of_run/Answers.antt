use Rattle.std.proofs.{Common.refl, lemmas.Result.err_from_is_err_and}
use Rattle.analysis_reports.specs.Reasons.{reason_report}
use Rattle.analysis_reports.proofs.reasoned.write_reasons_of_run.Goals as goal

pub returns-in_err-write_reasons-clause-written : goal.returns-in_err-write_reasons-clause-written
returns-in_err-write_reasons-clause-written g c =
    let p = err_from_is_err_and c.from_residual-in_err-write_reasons.result
    c.from_residual-in_err-write_reasons.ensures.1 in
    let job = c.args.run.now.whole in
    let firsts = c.in_ok-verdicts.verdicts.firsts in
    let reasons = c.in_ok-reasons.reasons.items in
    let are = rw (c.in_ok-verdicts.ensures.kept) at c.in_ok-reasons.ensures.reasons in
    let wrote = rw (
      c.as_slice.ensures.value,
      c.job.ensures.list,
      c.job.ensures.circuit,
      c.job.ensures.classes,
      c.in_ok-reasons.ensures.kept,
      c.in_ok-verdicts.ensures.kept,
    ) at c.in_err-write_reasons.ensures in
    rw (p.1, p.2) (
      reason_report job.list.model job.circuit job.classes firsts reasons c.args.classes,
      (firsts, reasons, c.in_ok-verdicts.ensures.firsts, are, refl),
      wrote,
    )
