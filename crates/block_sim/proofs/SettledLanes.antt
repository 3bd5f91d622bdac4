-- The lanes that are settled, as more lanes are seen and fewer are followed.
use Rattle.std.proofs.Common.{◌≡◌, ◌<◌, ◌≤◌, ℕ, ◌+◌, ◌^◌, refl, sym, ◌∙◌, ap, subst, Bool, true}
use Rattle.std.proofs.Common.{false, ◌&&◌, ◌||◌, List, inl, inr, ◌⊎◌}
use Rattle.std.specs.Prelude.{Contains, Some, bit_and, bit_or, nat_lt, slice_get, unwrap_or}
use Rattle.std.specs.Int.{w128, trailing_zeros}
use Rattle.std.proofs.lemmas.Bool.{false≢true, and_from, or_cases, or_left}
use Rattle.list_lemmas.proofs.{Members.contained, Places.at_place}
use Rattle.block_sim.specs.declared.propagation.Extent.{Extent, TheVariants.{WholeBlock, FirstHits}}
use Rattle.block_sim.specs.Propagation.{IsSettled, LeavesSettled}
use Rattle.block_sim.specs.declared.propagation.Followed.{Followed}
use Rattle.flat_circuit.{specs.Words.lane, proofs.Public.only_lanes}
use Rattle.flat_circuit.proofs.Public.{lane_and, lane_or, at_end, left_behind, left_of, left_out}

-- a settled lane stays settled as more lanes are seen
pub settled_more : (extent : Extent) (seen more k : ℕ) → IsSettled extent seen k
    → IsSettled extent (bit_or seen more) k
settled_more WholeBlock seen more k h = absurd h
settled_more (FirstHits followed) seen more k h = λ one at own.
    let j = h one at own in
    (j.0, j.1, j.2, lane_or seen more j.0 ∙ or_left (lane seen j.0) (lane more j.0) j.3)

-- a step that sees more lanes, and then follows fewer
pub settled_on : (extent : Extent) (lanes kept narrow seen more : ℕ)
    → LeavesSettled extent lanes kept seen
    → ((k : ℕ) → k < 128 → lane kept k ≡ true → lane narrow k ≡ false
    → IsSettled extent (bit_or seen more) k) → LeavesSettled extent lanes narrow (bit_or seen more)
settled_on extent lanes kept narrow seen more before out k lt in_lanes left = go (lane kept k) refl
  where
    go : (b : Bool) → lane kept k ≡ b → IsSettled extent (bit_or seen more) k
    go true e = out k lt e left
    go false e = settled_more extent seen more k (before k lt in_lanes e)

-- ---- one followed class
-- if the class is followed in the lane, one of its lanes up to this one was seen
abbrev pub HasHit : Followed → ℕ → ℕ → Type 0
HasHit one seen k = lane one.lanes k ≡ true
    → (j : ℕ) × (j ≤ k) × (lane one.lanes j ≡ true) × (lane seen j ≡ true)

-- it is followed in the lane, and none of its lanes up to this one was seen
abbrev pub IsOpen : Followed → ℕ → ℕ → Type 0
IsOpen one seen k = (lane one.lanes k ≡ true)
    × ((j : ℕ) → j ≤ k → lane one.lanes j ≡ true → lane seen j ≡ false)

seen_not : (b : Bool) → (b ≡ true → ⊥) → b ≡ false
seen_not true never = absurd (never refl)
seen_not false never = refl

module _ (one : Followed) (seen low k : ℕ) (small : bit_and one.lanes seen < 2 ^ 128) (lt : k < 128)
    (is : (j : ℕ) → j < 128 → lane low j ≡ nat_lt j (trailing_zeros w128 (bit_and one.lanes seen)))
  where
    -- the lanes below the least that was seen
    pub open_of : lane (bit_and one.lanes low) k ≡ true → IsOpen one seen k
    open_of e = (
      left_of (lane one.lanes k) (lane low k) (sym (lane_and one.lanes low k) ∙ e),
      unseen,
    )
      where
        unseen : (j : ℕ) → j ≤ k → lane one.lanes j ≡ true → lane seen j ≡ false
        unseen j le own = seen_not (lane seen j)
            (λ at. false≢true (sym (left_behind one.lanes (bit_and one.lanes seen)
            low j k small lt is le (lane_and one.lanes seen j
            ∙ and_from (lane one.lanes j) (lane seen j) own at)) ∙ e))

    pub hit_of : lane (bit_and one.lanes low) k ≡ false → HasHit one seen k
    hit_of out own =
        let j = left_out one.lanes (bit_and one.lanes seen) low k small lt is own out in
        let both = sym (lane_and one.lanes seen j.0) ∙ j.2 in (
          j.0,
          j.1,
          left_of (lane one.lanes j.0) (lane seen j.0) both,
          only_lanes one.lanes seen j.0 j.2,
        )

or_none : (a b : Bool) → (a || b) ≡ false → (a ≡ false) × (b ≡ false)
or_none true b e = absurd (false≢true (sym e))
or_none false b e = (refl, e)

-- ---- one more that is followed
module _ (followed : List Followed) (i : ℕ) (one : Followed) (at : slice_get followed i ≡ Some one)
    (below seen low : ℕ) (small : bit_and one.lanes seen < 2 ^ 128)
    (is : (j : ℕ) → j < 128 → lane low j ≡ nat_lt j (trailing_zeros w128 (bit_and one.lanes seen)))
  where
    abbrev SomeOpen : ℕ → ℕ → Type 0
    SomeOpen word k = lane word k ≡ true → (x : Followed) × Contains followed x × IsOpen x seen k

    abbrev AllHit : ℕ → ℕ → ℕ → Type 0
    AllHit word count k = lane word k ≡ false → (j : ℕ) (x : Followed) → j < count
        → slice_get followed j ≡ Some x → HasHit x seen k

    pub one_open : (k : ℕ) → k < 128 → SomeOpen below k
        → SomeOpen (bit_or below (bit_and one.lanes low)) k
    one_open k lt before e = go (or_cases (lane below k) (lane (bit_and one.lanes low) k)
        (sym (lane_or below (bit_and one.lanes low) k) ∙ e))
      where
        go : (lane below k ≡ true) ⊎ (lane (bit_and one.lanes low) k ≡ true)
            → (x : Followed) × Contains followed x × IsOpen x seen k
        go (inl h) = before h
        go (inr h) = (
          one,
          contained followed one (at_place followed i one at),
          open_of one seen low k small lt is h,
        )

    pub one_hit : (k : ℕ) → k < 128 → AllHit below i k
        → AllHit (bit_or below (bit_and one.lanes low)) (i + 1) k
    one_hit k lt before e j x le there = go (at_end i j le)
      where
        none : (lane below k ≡ false) × (lane (bit_and one.lanes low) k ≡ false)
        none = or_none (lane below k) (lane (bit_and one.lanes low) k)
            (sym (lane_or below (bit_and one.lanes low) k) ∙ e)

        go : (j < i) ⊎ (j ≡ i) → HasHit x seen k
        go (inl less) = before none.0 j x less there
        go (inr same) =
            let own : one ≡ x = ap (λ o. unwrap_or o one) (sym at
            ∙ (ap (slice_get followed) (sym same) ∙ there)) in
            subst (λ y. HasHit y seen k) own (hit_of one seen low k small lt is none.1)

-- ---- the lanes that both words have
pub out_of : (lanes low k : ℕ) → lane lanes k ≡ true → lane (bit_and lanes low) k ≡ false
    → lane low k ≡ false
out_of lanes low k own out = seen_not (lane low k) (λ e. false≢true (sym out ∙ (lane_and lanes low k
    ∙ and_from (lane lanes k) (lane low k) own e)))

pub and_none : (a b : Bool) → (b ≡ true → ⊥) → (a && b) ≡ false
and_none true b never = seen_not b never
and_none false b never = refl
