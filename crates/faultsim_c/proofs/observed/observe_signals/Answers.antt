use Rattle.std.{proofs.Common.{◌≡◌, ◌∙◌, ℕ, Some, arith, get_or, subst}, specs.Prelude.slice_get}
use Rattle.std.proofs.lemmas.{List.length-set, Option.{get_or_from_slice_get, slice_get_within}}
use Rattle.block_sim.specs.{Flips.AreObserving, Parts.Parts}
use Rattle.faultsim_c.proofs.Tables.{next}
use Rattle.faultsim_c.proofs.observed.observe_signals.Goals as goal

pub loop-place-preserved : goal.loop-place-preserved
loop-place-preserved c =
    let parts = c.args.session.now in
    let block = c.args.block in
    let signals = c.args.signals.now in
    let lanes = c.loop-place.lanes in
    let place = c.loop-place.place in
    let r = c.observing.result in
    let before = c.loop-place.invariant in
    let same = before.long in
    let low = c.loop-place-test.true in
    let long = c.requires.lengths in
    record {
      kept = c.observing.ensures.kept ∙ before.kept;
      long = length-set lanes place r ∙ same;
      each = next (λ k n. (s : ℕ) → slice_get signals k ≡ Some s
          → AreObserving parts.circuit parts.tests.tests s block n) place r lanes
          (omega (arith, same, low, long))
          (λ s own. subst (λ x. AreObserving parts.circuit parts.tests.tests x block r)
          (get_or_from_slice_get signals place s 0 own)
          (subst (λ (p : Parts). AreObserving p.circuit p.tests.tests (get_or signals place 0)
          block r) before.kept c.observing.ensures.lanes)) before.each;
    }

pub returns-clause-observed : goal.returns-clause-observed
returns-clause-observed c =
    let lanes = c.loop-place.lanes in
    let before = c.loop-place.invariant in
    let long = c.requires.lengths in
    let same = before.long in
    let high = c.loop-place-test.false in
    record {
      count = same ∙ long;
      each = λ k s word own at.
          let low = slice_get_within c.args.signals.now k s own in
          subst (AreObserving c.args.session.now.circuit c.args.session.now.tests.tests s
          c.args.block) (get_or_from_slice_get lanes k word 0 at)
          (before.each k (omega (arith, low, high)) s own);
    }
