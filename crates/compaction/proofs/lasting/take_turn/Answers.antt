use Rattle.std.proofs.Common.{◌∙◌, length, subst, true}
use Rattle.block_sim.specs.Parts.{Parts}
use Rattle.region_runs.{specs.Tasks.{AreKept, task_of}}
use Rattle.compaction.specs.{LastHits.IsLastHit, Turns.{AreLeftOpen, HaveMarked}}
use Rattle.compaction.proofs.LastTests.{turn_taken}
use Rattle.compaction.proofs.lasting.take_turn.Goals as goal

pub returns-clause-last : goal.returns-clause-last
returns-clause-last g c =
    let p = c.args.run.now.whole in
    let all = c.args.tests.now in
    let some = c.in_ok-some.some in
    let classes = c.args.classes.now in
    let found = c.in_ok-found.found.items in
    let taken = c.in_ok-set_own_tests.ensures in
    let own = c.job.ensures.own taken.own ∙ taken.tests in
    let kept = subst (λ (j : Parts). AreKept (task_of j 0 (λ _. true) IsLastHit) classes found) own
    c.in_ok-found.ensures.kept in
    let new = c.mark_from.new.marks in
    let marks = subst (λ l. HaveMarked c.args.start l (length l) c.args.marks.now new)
    c.as_slice.ensures.value c.mark_from.ensures in
    let left = subst (λ l. AreLeftOpen classes l (length classes) c.in_ok-left.left.items)
    c.as_slice-2.ensures.value c.in_ok-left.ensures in
    turn_taken p all some c.tests-tests.ensures.together c.args.start c.args.end c.requires.even.0
    c.in_ok-some.ensures.rows c.requires.even.1 classes found c.args.marks.now c.requires.last kept
    c.in_ok-left.left.items c.mark_from.new.marks marks left
