use Rattle.std.{proofs.Common.{◌≡◌, ◌∙◌, ap, map}, specs.Prelude.is_some}
use Rattle.region_runs.specs.RunJobs.{RunView}
use Rattle.report.proofs.Public.{written_as}
use Rattle.analysis_reports.specs.BlockingReports.{IsBlockingReport, IsBlockingReportOfJob}
use Rattle.analysis_reports.proofs.BlockingTexts.{flags_detected}
use Rattle.analysis_reports.proofs.blocking.write_blocking_of_run.Goals as goal

pub write_blocking-requires : goal.write_blocking-requires
write_blocking-requires g c =
    let all = c.args.run.now.whole in
    let same : c.job.result.now ≡ all = c.job.ensures.own c.in_ok-hold_tests.ensures.own
    ∙ (c.in_ok-hold_tests.ensures.whole
    ∙ ap (λ (r : RunView). r.whole) c.in_ok-verdicts.ensures.kept) in
    rw (same, c.deref.ensures.value) (flags_detected all c.in_ok-verdicts.verdicts.firsts
    c.in_ok-detected.detected.items c.requires.job c.in_ok-verdicts.ensures.firsts
    c.in_ok-detected.ensures)

pub returns-clause-written : goal.returns-clause-written
returns-clause-written g c =
    let all = c.args.run.now.whole in
    let firsts = c.in_ok-verdicts.verdicts.firsts in
    let same : c.job.result.now ≡ all = c.job.ensures.own c.in_ok-hold_tests.ensures.own
    ∙ (c.in_ok-hold_tests.ensures.whole
    ∙ ap (λ (r : RunView). r.whole) c.in_ok-verdicts.ensures.kept) in
    let wrote = rw (same, c.deref.ensures.value, c.in_ok-detected.ensures) at
    c.write_blocking.ensures.written in
    written_as (IsBlockingReport all (map is_some firsts)) (IsBlockingReportOfJob all)
    c.write_blocking.result _ _ (λ bytes is. (firsts, c.in_ok-verdicts.ensures.firsts, is)) wrote
