-- The tests of a block that detect a complemented signal, from a word of lanes in which they do.
use Rattle.std.proofs.Common.{◌≡◌, ◌<◌, ℕ, ◌+◌, ◌*◌, ◌-◌, ◌/◌, sym, ◌∙◌, subst, List, [], length}
use Rattle.std.{proofs.Common.{arith, true}, specs.Prelude.{Some, slice_get}, specs.Bool.Decides}
use Rattle.list_lemmas.proofs.Places.{within_place, place_within}
use Rattle.bench_net.specs.Statement.{Statement}
use Rattle.fault_model.specs.Solution.{Test}
use Rattle.block_sim.specs.Flips.{AreObserving, DetectsFlip, DetectsFlipAt}
use Rattle.flat_circuit.specs.{BlockSpans.{IsInSpan, one_block}, Words.{lane, test_of}}
use Rattle.flat_circuit.proofs.Public.{index_of}

module _ (c : List Statement) (tests : List Test) (block s word own : ℕ)
    (decides : (j : ℕ) → j < 128 → Decides (lane word j)
    (IsInSpan (length tests) (one_block block) (128 * (block / 2) + j)
    × DetectsFlip c (test_of tests (block / 2) j) s))
    (half : (k j : ℕ) → k < 64 → 64 * block + k ≡ 128 * (block / 2) + j
    → lane own k ≡ lane word j) where
  -- a lane of the block, in the word of its group
  abbrev place : ℕ → ℕ
  place k = 64 * block + k - 128 * (block / 2)

  at_place : (k : ℕ) → 64 * block + k ≡ 128 * (block / 2) + place k
  at_place k = omega arith

  low : (k : ℕ) → k < 64 → place k < 128
  low k lt = omega (arith, lt)

  found : (k : ℕ) → k < 64 → lane own k ≡ true → DetectsFlipAt c tests s (64 * block + k)
  found k lt e =
      let d = (decides (place k) (low k lt)).0 (sym (half k (place k) lt (at_place k)) ∙ e) in
      let n = 128 * (block / 2) + place k in
      let at = within_place tests n d.0.listed in (
        at.0,
        subst (λ m. slice_get tests m ≡ Some at.0) (sym (at_place k)) at.1,
        subst (λ t. DetectsFlip c t s) (index_of tests n at.0 [] at.1) d.1,
      )

  back : (k : ℕ) → k < 64 → DetectsFlipAt c tests s (64 * block + k) → lane own k ≡ true
  back k lt d =
      let here = at_place k in
      let listed = place_within tests (64 * block + k) d.0 d.1 in
      let n = 128 * (block / 2) + place k in
      let at = subst (λ m. slice_get tests m ≡ Some d.0) here d.1 in
      half k (place k) lt here ∙ (decides (place k) (low k lt)).1 (
        record {
          from = omega (arith, here);
          to = omega (arith, here, lt);
          listed = omega (arith, here, listed);
        },
        subst (λ t. DetectsFlip c t s) (sym (index_of tests n d.0 [] at)) d.2,
      )

  pub observing_lanes : AreObserving c tests s block own
  observing_lanes k lt = (found k lt, back k lt)
