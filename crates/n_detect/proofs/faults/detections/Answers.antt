use Rattle.std.proofs.Common.{◌≡◌, ◌∙◌, ℕ, Option, ap, arith, map, min, subst, sym}
use Rattle.region_runs.specs.RunJobs.{RunView}
use Rattle.n_detect.specs.{Detections.AreCountsAt, HitCounts.one_of}
use Rattle.n_detect.proofs.CountsBefore.{counts_at, ones_kept}
use Rattle.n_detect.proofs.faults.detections.Goals as goal

pub by_fault-requires : goal.by_fault-requires
by_fault-requires g c =
    let job = c.args.run.now.whole in
    let most = c.args.most in
    let done = c.in_ok-done.done in
    let one : Option ℕ → ℕ = λ first. min most (one_of first) in
    let ones : c.in_ok-ones.ones.items ≡ map one done.kept.items =
    c.in_ok-ones.ensures ∙ ap (map one) c.as_slice.ensures.value in
    subst (λ (r : RunView). AreCountsAt r.whole most c.as_slice-positions.result.now
    c.as_slice-then-most-lt2.result.now) (sym c.in_ok-done.ensures.same)
    (subst (AreCountsAt job most c.as_slice-positions.result.now)
    (sym (c.as_slice-then-most-lt2.ensures.value ∙ ones))
    (subst (λ l. AreCountsAt job most l (map one done.kept.items))
    (sym c.as_slice-positions.ensures.value)
    (counts_at job most done.classes.items done.positions.items (map one done.kept.items)
    c.tests-tests.ensures.together c.in_ok-done.ensures.positions c.in_ok-done.ensures.count
    (ones_kept job most done.classes.items done.kept.items (omega (arith, c.if-most-lt2.true))
    c.in_ok-done.ensures.kept))))

pub by_fault-requires-2 : goal.by_fault-requires-2
by_fault-requires-2 g c =
    let job = c.args.run.now.whole in
    let most = c.args.most in
    let done = c.in_ok-done-2.done in
    subst (λ (r : RunView). AreCountsAt r.whole most c.as_slice-positions-2.result.now
    c.as_slice-2.result.now) (sym c.in_ok-done-2.ensures.same)
    (subst (AreCountsAt job most c.as_slice-positions-2.result.now) (sym c.as_slice-2.ensures.value)
    (subst (λ l. AreCountsAt job most l done.kept.items) (sym c.as_slice-positions-2.ensures.value)
    (counts_at job most done.classes.items done.positions.items done.kept.items
    c.tests-tests.ensures.together c.in_ok-done-2.ensures.positions
    c.in_ok-done-2.ensures.count c.in_ok-done-2.ensures.kept)))
