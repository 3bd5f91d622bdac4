-- The hits that the lanes of a word tell, and their number.
use Rattle.std.proofs.Common.{◌≡◌, ◌<◌, ◌≤◌, ◌+◌, ◌-◌, ◌⊎◌, ◌^◌, inl, inr, ℕ, Bool, true, false}
use Rattle.std.proofs.{Common.{min, refl, sym, ap, ◌∙◌, arith}, lemmas.Bool.false≢true}
use Rattle.std.specs.Prelude.{count_by, count_ones}
use Rattle.patterns.specs.Least.{from_up}
use Rattle.flat_circuit.specs.Words.{lane}
use Rattle.region_sim.specs.Goals.{TellHits}
use Rattle.n_detect.specs.{CountLaws.{count_none, count_parts, count_same}, HitCounts.IsHitCount}
use Rattle.n_detect.proofs.RangeCounts.{ones_lanes}

module _ (hits : ℕ → Bool) (first from to word : ℕ) (few : word < 2 ^ 128)
    (tells : TellHits true hits first from to word) where
  -- whether a test is one of those of the word that are hits
  abbrev told : ℕ → Bool
  told t = lane word (t - first)

  lane_hit : (k : ℕ) → from ≤ first + k → first + k < to → lane word k ≡ hits (first + k)
  lane_hit k low high = go (lane word k) (hits (first + k)) refl refl
    where
      go : (a b : Bool) → lane word k ≡ a → hits (first + k) ≡ b → lane word k ≡ hits (first + k)
      go true b on e =
          let up = tells.high in
          on ∙ sym (tells.right k (omega (arith, high, up)) on).2
      go false true off e = absurd (false≢true (sym off ∙ tells.whole k low high e (inl refl)))
      go false false off e = off ∙ sym e

  lane_off : (k : ℕ) → k < 128 → (first + k < from) ⊎ (to ≤ first + k) → lane word k ≡ false
  lane_off k lt out = go (lane word k) refl out
    where
      go : (a : Bool) → lane word k ≡ a → (first + k < from) ⊎ (to ≤ first + k)
          → lane word k ≡ false
      go false off out = off
      go true on (inl low) =
          let r = (tells.right k lt on).0 in absurd (omega (arith, r, low))
      go true on (inr high) =
          let r = (tells.right k lt on).1 in absurd (omega (arith, r, high))

  pub ones_are : count_ones word ≡ count_by hits (from_up from (to - from))
  ones_are =
      let low = tells.low in
      let ordered = tells.ordered in
      let high = tells.high in
      let before = from - first in
      let own = to - from in
      let after = (first + 128) - to in
      let all = ones_lanes 128 word first told few (λ j lt. ap (lane word) (omega (arith))) in
      let parts : 128 ≡ before + (own + after) = omega (arith, low, ordered, high) in
      let whole = ap (λ n. count_by told (from_up first n)) parts in
      let one = count_parts told first before (own + after) in
      let at : first + before ≡ from = omega (arith, low) in
      let moved = ap (λ a. count_by told (from_up a (own + after))) at in
      let two = count_parts told from own after in
      let end : from + own ≡ to = omega (arith, ordered) in
      let moved_end = ap (λ a. count_by told (from_up a after)) end in
      let none = count_none told first before
      (λ j lt. lane_off ((first + j) - first) (omega (arith, lt, low, ordered, high))
      (inl (omega (arith, lt, low)))) in
      let none_after = count_none told to after
      (λ j lt. lane_off ((to + j) - first) (omega (arith, lt, low, ordered, high))
      (inr (omega (arith, low, ordered)))) in
      let same = count_same told hits from own
      (λ j lt. lane_hit ((from + j) - first) (omega (arith, low)) (omega (arith, lt, low))
      ∙ ap hits (omega (arith, low))) in
      all ∙ (whole ∙ omega (arith, one, moved, two, moved_end, none, none_after, same))

  -- a count with them
  pub count_taken : (most low before n : ℕ) → low ≤ from → n ≡ min most (before + count_ones word)
      → IsHitCount most hits low from before → IsHitCount most hits low to n
  count_taken most low before n le is was =
      let ordered = tells.ordered in
      let parts : to - low ≡ (from - low) + (to - from) = omega (arith, le, ordered) in
      let both = count_parts hits low (from - low) (to - from) in
      let whole = ap (λ k. count_by hits (from_up low k)) parts in
      let at : low + (from - low) ≡ from = omega (arith, le) in
      let moved = ap (λ a. count_by hits (from_up a (to - from))) at in
      let ones = ones_are in
      omega (arith, is, was, both, whole, moved, ones)
