use Rattle.std.{proofs.Common.{◌≡◌, ◌∙◌, ℕ, Some, arith, get_or, subst}, specs.Prelude.slice_get}
use Rattle.std.proofs.lemmas.List.{length-set}
use Rattle.std.proofs.lemmas.Option.{get_or_from_slice_get, slice_get-get_or, slice_get_within}
use Rattle.block_sim.specs.First.{AreDetecting}
use Rattle.faultsim_c.proofs.{BlockLanes.block_lanes, Tables.next}
use Rattle.faultsim_c.proofs.lanes.write_lanes.Goals as goal

pub loop-place-preserved : goal.loop-place-preserved
loop-place-preserved c =
    let parts = c.args.job.now in
    let block = c.args.block in
    let classes = c.args.classes.now in
    let words = c.args.words.now in
    let lanes = c.loop-place.lanes in
    let place = c.loop-place.place in
    let r = c.block_word.result in
    let before = c.loop-place.invariant in
    let same = before.long in
    let low = c.loop-place-test.true in
    let fit = c.requires.lengths in
    let count = c.requires.words.count in
    record {
      long = length-set lanes place r ∙ same;
      each = next (λ k n. (class : ℕ) → slice_get classes k ≡ Some class
          → AreDetecting parts.list.model parts.circuit parts.tests.tests class block n) place r
          lanes (omega (arith, same, low)) (λ class own.
          let at = slice_get-get_or words place 0 (omega (arith, low, fit, count)) in
          block_lanes parts block class (get_or words place 0) r
          (c.requires.words.each place class (get_or words place 0) own at) c.block_word.ensures)
          before.each;
    }

pub returns : goal.returns
returns c =
    let parts = c.args.job.now in
    let classes = c.args.classes.now in
    let lanes = c.loop-place.lanes in
    let before = c.loop-place.invariant in
    let same = before.long in
    let fit = c.requires.lengths in
    let high = c.loop-place-test.false in
    record {
      count = same ∙ fit;
      each = λ k class word own at.
          let low = slice_get_within classes k class own in
          subst (AreDetecting parts.list.model parts.circuit parts.tests.tests class c.args.block)
          (get_or_from_slice_get lanes k word 0 at)
          (before.each k (omega (arith, low, high, fit)) class own);
    }
