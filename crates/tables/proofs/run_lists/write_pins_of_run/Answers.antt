use Rattle.std.{proofs.Common.{◌≡◌, ◌∙◌, ap, map}, specs.Prelude.is_some}
use Rattle.region_runs.specs.RunJobs.{RunView}
use Rattle.report.proofs.Public.{written_as}
use Rattle.analysis_reports.proofs.Public.{flags_detected}
use Rattle.tables.specs.Lists.{IsBlockingTable, IsBlockingTableOfJob}
use Rattle.tables.proofs.run_lists.write_pins_of_run.Goals as goal

pub write_pins-requires : goal.write_pins-requires
write_pins-requires g c =
    let all = c.args.run.now.whole in
    let same : c.job.result.now ≡ all = c.job.ensures.own c.in_ok-hold_tests.ensures.own
    ∙ (c.in_ok-hold_tests.ensures.whole
    ∙ ap (λ (r : RunView). r.whole) c.in_ok-verdicts.ensures.kept) in
    rw (same, c.deref.ensures.value) (flags_detected all c.in_ok-verdicts.verdicts.firsts
    c.in_ok-detected.detected.items c.requires.job c.in_ok-verdicts.ensures.firsts
    c.in_ok-detected.ensures)

pub returns-clause-written : goal.returns-clause-written
returns-clause-written g c =
    let all = c.args.run.now.whole in
    let firsts = c.in_ok-verdicts.verdicts.firsts in
    let same : c.job.result.now ≡ all = c.job.ensures.own c.in_ok-hold_tests.ensures.own
    ∙ (c.in_ok-hold_tests.ensures.whole
    ∙ ap (λ (r : RunView). r.whole) c.in_ok-verdicts.ensures.kept) in
    let wrote = rw (same, c.deref.ensures.value, c.in_ok-detected.ensures) at
    c.write_pins.ensures.written in
    written_as (IsBlockingTable c.args.format all (map is_some firsts))
    (IsBlockingTableOfJob all c.args.format) c.write_pins.result _ _
    (λ bytes is. (firsts, c.in_ok-verdicts.ensures.firsts, is)) wrote
