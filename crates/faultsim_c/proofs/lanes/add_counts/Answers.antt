use Rattle.std.proofs.Common.{◌≡◌, ◌∙◌, ◌+◌, ℕ, Some, arith, get_or, min, sym}
use Rattle.std.{specs.Prelude.{count_ones, slice_get}, proofs.lemmas.List.length-set}
use Rattle.std.proofs.lemmas.Option.{get_or_from_slice_get, slice_get-get_or, slice_get_within}
use Rattle.flat_circuit.proofs.Public.{set_there}
use Rattle.faultsim_c.{specs.Lanes.IsBlockCount, proofs.BlockLanes.{block_count, block_lanes}}
use Rattle.faultsim_c.proofs.Tables.{next}
use Rattle.faultsim_c.proofs.lanes.add_counts.Goals as goal

pub loop-place-preserved : goal.loop-place-preserved
loop-place-preserved c =
    let parts = c.args.job.now in
    let block = c.args.block in
    let most = c.args.most in
    let classes = c.args.classes.now in
    let words = c.args.words.now in
    let first = c.args.counts.now in
    let counts = c.loop-place.counts in
    let place = c.loop-place.place in
    let r = c.min.result in
    let own = c.block_word-added.result in
    let before = c.loop-place.invariant in
    let same = before.long in
    let low = c.loop-place-test.true in
    let fit = c.requires.lengths in
    let count = c.requires.words.count in
    record {
      long = length-set counts place r ∙ same;
      each = next (λ k n. (class old : ℕ) → slice_get classes k ≡ Some class
          → slice_get first k ≡ Some old
          → (added : ℕ) × IsBlockCount parts class block added × (n ≡ min most (old + added))) place
          r counts (omega (arith, same, low)) (λ class old at was.
          let word = slice_get-get_or words place 0 (omega (arith, low, fit, count)) in
          let told = block_lanes parts block class (get_or words place 0) own
          (c.requires.words.each place class (get_or words place 0) at word)
          c.block_word-added.ensures in
          let here : old ≡ get_or counts place 0 =
          sym (get_or_from_slice_get counts place old 0 (before.others place (omega arith) ∙ was))
          in (
            count_ones own,
            block_count parts block class own c.block_word-added.type_inv told,
            omega (arith, here, c.min.ensures, c.saturating_add.ensures, c.ranges.most.fits),
          )) before.each;
      others = λ k high. set_there counts place k r (λ e. omega (arith, e, high))
          ∙ before.others k (omega (arith, high));
    }

pub returns : goal.returns
returns c =
    let classes = c.args.classes.now in
    let counts = c.loop-place.counts in
    let before = c.loop-place.invariant in
    let high = c.loop-place-test.false in
    record {
      count = before.long;
      each = λ k class old new at was now.
          let low = slice_get_within c.args.counts.now k old was in
          let h = before.each k (omega (arith, low, high)) class old at was in (
            h.0,
            h.1,
            sym (get_or_from_slice_get counts k new 0 now) ∙ h.2,
          );
    }
