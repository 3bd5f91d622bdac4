use Rattle.std.proofs.Common.{◌∙◌, ap, arith, length}
use Rattle.block_sim.specs.Parts.{Parts}
use Rattle.region_runs.specs.RunJobs.{RunView}
use Rattle.compaction.proofs.KeptTests.{are_finding}
use Rattle.compaction.proofs.finding.finding_tests.Goals as goal

pub returns-clause-marks : goal.returns-clause-marks
returns-clause-marks g c =
    let job = c.args.run.now.whole in
    let same = ap (λ (r : RunView). r.whole) c.in_ok-verdicts.ensures.kept in
    let count = c.count.ensures ∙ ap (λ t. length t.tests) (c.tests.ensures.tests
    ∙ ap (λ (p : Parts). p.tests) same) in
    are_finding job.list.model job.circuit job.tests.tests c.in_ok-marks_of.field-0.items
    c.in_ok-verdicts.verdicts.firsts c.in_ok-verdicts.ensures.firsts (c.in_ok-marks_of.ensures.count
    ∙ count) (λ t lt. c.in_ok-marks_of.ensures.each t (omega (arith, lt, count)))
