-- The lanes of a pack that are still followed after more were seen: of those that are left out each
-- class that came has a hit.
use Rattle.std.proofs.Common.{◌≡◌, ◌≢◌, ◌<◌, ◌≤◌, ◌⊎◌, ℕ, zero, suc, ◌+◌, sym, ◌∙◌, ap, arith, inl}
use Rattle.std.proofs.Common.{inr, Bool, true, false, ◌&&◌, List, length}
use Rattle.std.specs.Prelude.{Contains, slice_range, ◌==◌}
use Rattle.std.proofs.lemmas.Bool.{and_from, cases_eq, cases_lt, eq-eqb, eqb-true, false≢true}
use Rattle.list_lemmas.proofs.Places.{place_within, within_place}
use Rattle.wide_words.specs.Lanes.{IsLayout, Layout, lane_in, slot_of}
use Rattle.block_sim.specs.declared.propagation.Followed.{Followed}
use Rattle.region_sim.specs.{declared.pack.Slot.Slot, Pack.{AreKeptAfter, HaveHitsIn, IsIn}}
use Rattle.region_sim.proofs.{OneLane.bit_cases, PackRanges.in_range, PackSlots.lanes_rise}
use Rattle.flat_circuit.{specs.Words.lane, proofs.Public.{left_of, right_of}}

-- the least number that passes is below a bound, or none is
found_below : (p : ℕ → Bool) (n : ℕ) → ((m : ℕ) × (m < n) × (p m ≡ true))
    ⊎ ((m : ℕ) → m < n → p m ≡ false)
found_below p zero = inr (λ m lt. absurd (omega (arith, lt)))
found_below p (suc n) = go (found_below p n) (bit_cases (p n))
  where
    go : ((m : ℕ) × (m < n) × (p m ≡ true)) ⊎ ((m : ℕ) → m < n → p m ≡ false)
        → (p n ≡ true) ⊎ (p n ≡ false) → ((m : ℕ) × (m < suc n) × (p m ≡ true))
        ⊎ ((m : ℕ) → m < suc n → p m ≡ false)
    go (inl m) here = let lt = m.1 in inl (m.0, omega (arith, lt), m.2)
    go (inr none) (inl is) = inl (n, omega arith, is)
    go (inr none) (inr isnt) = inr (λ m lt. by m lt (cases_eq m n))
      where
        by : (m : ℕ) → m < suc n → (m ≡ n) ⊎ (m ≢ n) → p m ≡ false
        by m lt (inl e) = ap p e ∙ isnt
        by m lt (inr ne) = none m (omega (arith, lt, ne))

module _ (layout : Layout) (sized : IsLayout layout) (stems : List Slot) (followed : List Followed)
    (kept fresh seen after : ℕ)
    (h : AreKeptAfter layout followed stems kept fresh seen after (length stems)) where
  pub kept_narrow : (k : ℕ) → k < 512 → lane after k ≡ true → lane kept k ≡ true
  kept_narrow k lt on = go (bit_cases (lane kept k)) (cases_lt (slot_of layout k) (length stems))
    where
      go : (lane kept k ≡ true) ⊎ (lane kept k ≡ false)
          → (slot_of layout k < length stems) ⊎ (length stems ≤ slot_of layout k)
          → lane kept k ≡ true
      go (inl e) some = e
      go (inr off) (inr past) = sym (h.beyond k lt past) ∙ on
      go (inr off) (inl below) =
          let at = within_place stems (slot_of layout k) below in
          sym (h.stale k lt (λ beside. false≢true
          (sym off ∙ ((h.narrowed k at.0 lt below at.1 beside).0 on).0))) ∙ on

  module _ (k : ℕ) (lt : k < 512) (was : lane kept k ≡ true) (off : lane after k ≡ false)
      (one : Followed) (own : IsIn layout stems followed k one) where
    abbrev hit : ℕ → Bool
    hit m = (slot_of layout m == slot_of layout k)
        && (lane one.lanes (lane_in layout m) && lane seen m)

    abbrev pub Hit : Type 0
    Hit = (j : ℕ) × (j < 512) × (slot_of layout j ≡ slot_of layout k)
        × (lane_in layout j ≤ lane_in layout k)
        × (lane one.lanes (lane_in layout j) ≡ true) × (lane seen j ≡ true)

    below : slot_of layout k < length stems
    below = place_within stems (slot_of layout k) own.slot own.stands

    listed : Contains (slice_range followed own.slot.begin own.slot.end) one
    listed = in_range followed own.slot.begin own.slot.end own.at one own.low own.high own.listed

    from_hit : (m : ℕ) × (m < k + 1) × (hit m ≡ true) → Hit
    from_hit m =
        let le = m.1 in
        let same : slot_of layout m.0 ≡ slot_of layout k =
        eqb-true (slot_of layout m.0) (slot_of layout k) (left_of _ _ m.2) in
        let rest = right_of (slot_of layout m.0 == slot_of layout k) _ m.2 in (
          m.0,
          omega (arith, le, lt),
          same,
          lanes_rise layout sized k m.0 same (omega (arith, le)),
          left_of _ _ rest,
          right_of (lane one.lanes (lane_in layout m.0)) _ rest,
        )

    no_hits : ((m : ℕ) → m < k + 1 → hit m ≡ false)
        → HaveHitsIn layout (slice_range followed own.slot.begin own.slot.end) seen k → ⊥
    no_hits none have =
        let m = have one listed own.comes in
        let le = m.1 in
        false≢true (sym (none m.0 (omega (arith, le)))
        ∙ and_from _ _ (eq-eqb (slot_of layout m.0) (slot_of layout k) m.2) (and_from _ _ m.3 m.4))

    pub kept_hit : Hit
    kept_hit = go (found_below hit (k + 1))
      where
        go : ((m : ℕ) × (m < k + 1) × (hit m ≡ true)) ⊎ ((m : ℕ) → m < k + 1 → hit m ≡ false) → Hit
        go (inl m) = from_hit m
        go (inr none) = absurd (false≢true (sym off ∙ (h.stale k lt (λ beside. false≢true (sym off
            ∙ (h.narrowed k own.slot lt below own.stands beside).1 (was, no_hits none))) ∙ was)))
