-- The lanes of a slot, and those of them that are still followed.
use Rattle.std.proofs.Common.{◌≡◌, ◌≢◌, ◌<◌, ◌≤◌, ℕ, ◌+◌, ◌-◌, ◌*◌, ◌/◌, ◌%◌, refl, sym, ◌∙◌, ap}
use Rattle.std.proofs.Common.{subst, Bool, true, false, ◌&&◌, ◌||◌, List, arith, inl, inr, ◌⊎◌}
use Rattle.std.specs.Prelude.{Contains, Some, bit_and, bit_or, bit_xor, slice_get, slice_range}
use Rattle.std.specs.{Prelude.unwrap_or, Bool.Decides}
use Rattle.std.proofs.lemmas.Bool.{and_from, cases_eq, cases_lt, false≢true, or_cases, or_left}
use Rattle.list_lemmas.proofs.{Members.contained, Places.at_place}
use Rattle.wide_words.specs.Lanes.{IsLayout, Layout, lane_in, slot_of, slots}
use Rattle.block_sim.specs.{declared.propagation.Followed.Followed, Propagation.HaveHits}
use Rattle.region_sim.{specs.declared.pack.Slot.Slot, proofs.PackGates.in_group}
use Rattle.region_sim.specs.Pack.{AreKeptAfter, HasLaneBeside, HaveHitsIn, HaveLane}
use Rattle.flat_circuit.{specs.Words.lane, proofs.Public.right_of}
use Rattle.flat_circuit.proofs.Public.{lane_and, lane_or, lane_xor, unlike, at_end, left_of}
pub use Rattle.region_sim.proofs.OneLane.{kept_bit as unlike_none}
use Rattle.std.proofs.lemmas.Bool.{cases_Bool as either}

-- ---- places of lanes
module _ (layout : Layout) (sized : IsLayout layout) where
  pub lanes_rise : (k m : ℕ) → slot_of layout m ≡ slot_of layout k → m ≤ k
      → lane_in layout m ≤ lane_in layout k
  lanes_rise k m same le = go sized.whole
    where
      go : (layout.size ≡ 64) ⊎ (layout.size ≡ 128) → lane_in layout m ≤ lane_in layout k
      go (inl e) =
          let a = ap (λ n. k / n) e in
          let b = ap (λ n. m / n) e in
          let p = ap (λ n. k % n) e in
          let q = ap (λ n. m % n) e in omega (arith, same, le, a, b, p, q)
      go (inr e) =
          let a = ap (λ n. k / n) e in
          let b = ap (λ n. m / n) e in
          let p = ap (λ n. k % n) e in
          let q = ap (λ n. m % n) e in omega (arith, same, le, a, b, p, q)

  pub lanes_back : (k m : ℕ) → slot_of layout m ≡ slot_of layout k
      → lane_in layout m ≤ lane_in layout k → m ≤ k
  lanes_back k m same le = go sized.whole
    where
      go : (layout.size ≡ 64) ⊎ (layout.size ≡ 128) → m ≤ k
      go (inl e) =
          let a = ap (λ n. k / n) e in
          let b = ap (λ n. m / n) e in
          let p = ap (λ n. k % n) e in
          let q = ap (λ n. m % n) e in omega (arith, same, le, a, b, p, q)
      go (inr e) =
          let a = ap (λ n. k / n) e in
          let b = ap (λ n. m / n) e in
          let p = ap (λ n. k % n) e in
          let q = ap (λ n. m % n) e in omega (arith, same, le, a, b, p, q)

  pub placed : (slot j : ℕ) → slot < slots layout → layout.base ≤ j → j < layout.base + layout.size
      → (m : ℕ) × (m < 512) × (slot_of layout m ≡ slot) × (lane_in layout m ≡ j)
  placed slot j lt up below = go sized.whole
    where
      go : (layout.size ≡ 64) ⊎ (layout.size ≡ 128)
          → (m : ℕ) × (m < 512) × (slot_of layout m ≡ slot) × (lane_in layout m ≡ j)
      go (inl e) =
          let m = 64 * slot + (j - layout.base) in
          let all = ap (λ n. 512 / n) e in
          let few : slot < 8 = omega (arith, lt, all) in
          let near : j - layout.base < 64 = omega (arith, below, up, e) in
          let part : m / 64 ≡ slot = omega (arith, near) in
          let rest : m % 64 ≡ j - layout.base = omega (arith, near) in
          let at = ap (λ n. m % n) e in (
            m,
            omega (arith, few, near),
            ap (λ n. m / n) e ∙ part,
            omega (arith, at, rest, up),
          )
      go (inr e) =
          let m = 128 * slot + (j - layout.base) in
          let all = ap (λ n. 512 / n) e in
          let few : slot < 4 = omega (arith, lt, all) in
          let near : j - layout.base < 128 = omega (arith, below, up, e) in
          let part : m / 128 ≡ slot = omega (arith, near) in
          let rest : m % 128 ≡ j - layout.base = omega (arith, near) in
          let at = ap (λ n. m % n) e in (
            m,
            omega (arith, few, near),
            ap (λ n. m / n) e ∙ part,
            omega (arith, at, rest, up),
          )

-- a lane of a part of a wide word is one of its slot
module _ (layout : Layout) (sized : IsLayout layout) (slot wide part : ℕ) (lt : slot < slots layout)
    (own : (k : ℕ) → k < 512 → slot_of layout k ≡ slot → lane part (lane_in layout k) ≡ lane wide k)
    (rest : (j : ℕ) → (j < layout.base) ⊎ (layout.base + layout.size ≤ j) → lane part j ≡ false)
  where
    pub lane_of_slot : (j : ℕ) → lane part j ≡ true
        → (m : ℕ) × (m < 512) × (slot_of layout m ≡ slot) × (lane_in layout m ≡ j)
        × (lane wide m ≡ true)
    lane_of_slot j e = go (cases_lt j layout.base) (cases_lt j (layout.base + layout.size))
      where
        go : (j < layout.base) ⊎ (layout.base ≤ j)
            → (j < layout.base + layout.size) ⊎ (layout.base + layout.size ≤ j)
            → (m : ℕ) × (m < 512) × (slot_of layout m ≡ slot) × (lane_in layout m ≡ j)
            × (lane wide m ≡ true)
        go (inl low) above = absurd (false≢true (sym (rest j (inl low)) ∙ e))
        go (inr up) (inr past) = absurd (false≢true (sym (rest j (inr past)) ∙ e))
        go (inr up) (inl below) =
            let at = placed layout sized slot j lt up below in (
              at.0,
              at.1,
              at.2,
              at.3,
              sym (own at.0 at.1 at.2) ∙ (ap (lane part) at.3 ∙ e),
            )

-- ---- the lanes of a slot that are still followed
kept_bit : (x b : Bool) → unlike x (unlike x (x && b)) ≡ (x && b)
kept_bit true true = refl
kept_bit true false = refl
kept_bit false b = refl

module _ (layout : Layout) (sized : IsLayout layout) (followed : List Followed)
    (slot kept seen lanes hits below put : ℕ) (lt : slot < slots layout)
    (lanes_own : (k : ℕ) → k < 512 → slot_of layout k ≡ slot
    → lane lanes (lane_in layout k) ≡ lane kept k)
    (hits_own : (k : ℕ) → k < 512 → slot_of layout k ≡ slot
    → lane hits (lane_in layout k) ≡ lane seen k)
    (hits_rest : (j : ℕ) → (j < layout.base) ⊎ (layout.base + layout.size ≤ j)
    → lane hits j ≡ false) (below_some : (j : ℕ) → j < 128 → lane below j ≡ true → (one : Followed)
    × Contains followed one × (lane one.lanes j ≡ true)
    × ((i : ℕ) → i ≤ j → lane one.lanes i ≡ true → lane hits i ≡ false))
    (below_rest : (j : ℕ) → j < 128 → lane below j ≡ false → HaveHits followed hits j)
    (put_own : (k : ℕ) → k < 512 → slot_of layout k ≡ slot
    → lane put k ≡ lane (bit_xor lanes (bit_and lanes below)) (lane_in layout k)) where
  module _ (k : ℕ) (in_word : k < 512) (here : slot_of layout k ≡ slot) where
    abbrev j : ℕ
    j = lane_in layout k

    bit : lane (bit_xor kept put) k ≡ (lane kept k && lane below j)
    bit = lane_xor kept put k ∙ (ap (unlike (lane kept k)) (put_own k in_word here
        ∙ (lane_xor lanes (bit_and lanes below) j
        ∙ (ap (unlike (lane lanes j)) (lane_and lanes below j)
        ∙ ap (λ b. unlike b (b && lane below j)) (lanes_own k in_word here))))
        ∙ kept_bit (lane kept k) (lane below j))

    open_lane : lane below j ≡ true → HaveHitsIn layout followed seen k → ⊥
    open_lane e have =
        let one = below_some j (in_group layout sized k) e in
        let m = have one.0 one.1 one.2 in
        let same : slot_of layout m.0 ≡ slot = m.2 ∙ here in
        let near : m.0 < 512 = omega (arith, m.1, in_word) in
        false≢true (sym (one.3 (lane_in layout m.0) (lanes_rise layout sized k m.0 m.2 m.1) m.3)
        ∙ (hits_own m.0 near same ∙ m.4))

    settled_lane : lane below j ≡ false → HaveHitsIn layout followed seen k
    settled_lane e one at own =
        let i = below_rest j (in_group layout sized k) e one at own in
        let m = lane_of_slot layout sized slot seen hits lt hits_own hits_rest i.0 i.3 in
        let same : slot_of layout m.0 ≡ slot_of layout k = m.2 ∙ sym here in
        let le : lane_in layout m.0 ≤ lane_in layout k = omega (arith, m.3, i.1) in (
          m.0,
          lanes_back layout sized k m.0 same le,
          same,
          ap (lane one.lanes) m.3 ∙ i.2,
          m.4,
        )

    pub kept_own : Decides (lane (bit_xor kept put) k)
        ((lane kept k ≡ true) × (HaveHitsIn layout followed seen k → ⊥))
    kept_own = (
      λ e. let both = sym bit ∙ e in (
        left_of (lane kept k) (lane below j) both,
        open_lane (right_of (lane kept k) (lane below j) both),
      ),
      λ h. bit ∙ and_from (lane kept k) (lane below j) h.0 (go h.1 (either (lane below j))),
    )
      where
        go : (HaveHitsIn layout followed seen k → ⊥)
            → (lane below j ≡ true) ⊎ (lane below j ≡ false) → lane below j ≡ true
        go never (inl e) = e
        go never (inr e) = absurd (never (settled_lane e))

-- ---- slot by slot
same_slot : (slots : List Slot) (i j : ℕ) (one other : Slot) → i ≡ j → slice_get slots i ≡ Some one
    → slice_get slots j ≡ Some other → one ≡ other
same_slot slots i j one other e p q =
    ap (λ o. unwrap_or o one) (sym p ∙ (ap (slice_get slots) e ∙ q))

module _ (layout : Layout) (followed : List Followed) (stems : List Slot) (kept fresh seen : ℕ)
  where
    pub kept_none : AreKeptAfter layout followed stems kept fresh seen kept 0
    kept_none = record {
      narrowed = λ k slot lt below at beside. absurd (omega (arith, below));
      stale = λ k lt none. refl;
      beyond = λ k lt up. refl;
    }

    module _ (i rest : ℕ) (before : AreKeptAfter layout followed stems kept fresh seen rest i) where
      -- no lane of the slot is fresh
      pub kept_stale : ((m : ℕ) → m < 512 → slot_of layout m ≡ i → lane fresh m ≡ true → ⊥)
          → AreKeptAfter layout followed stems kept fresh seen rest (i + 1)
      kept_stale none = record {
        narrowed = narrowed;
        stale = before.stale;
        beyond = λ k lt up. before.beyond k lt (omega (arith, up));
      }
        where
          narrowed : (k : ℕ) (slot : Slot) → k < 512 → slot_of layout k < i + 1
              → slice_get stems (slot_of layout k) ≡ Some slot → HasLaneBeside layout fresh k
              → Decides (lane rest k) ((lane kept k ≡ true)
              × (HaveHitsIn layout (slice_range followed slot.begin slot.end) seen k → ⊥))
          narrowed k slot lt below at beside = go (cases_eq (slot_of layout k) i)
            where
              go : (slot_of layout k ≡ i) ⊎ (slot_of layout k ≢ i)
                  → Decides (lane rest k) ((lane kept k ≡ true)
                  × (HaveHitsIn layout (slice_range followed slot.begin slot.end) seen k → ⊥))
              go (inl e) = absurd (none beside.0 beside.1 (beside.2 ∙ e) beside.3)
              go (inr ne) = before.narrowed k slot lt (omega (arith, below, ne)) at beside

      -- some lane of it is, and it is narrowed
      module _ (own : Slot) (is : slice_get stems i ≡ Some own) (after : ℕ)
          (some : (m : ℕ) × (m < 512) × (slot_of layout m ≡ i) × (lane fresh m ≡ true))
          (own_lanes : (k : ℕ) → k < 512 → slot_of layout k ≡ i
          → Decides (lane after k) ((lane rest k ≡ true)
          × (HaveHitsIn layout (slice_range followed own.begin own.end) seen k → ⊥)))
          (others : (k : ℕ) → k < 512 → slot_of layout k ≢ i → lane after k ≡ lane rest k) where
        narrowed : (k : ℕ) (slot : Slot) → k < 512 → slot_of layout k < i + 1
            → slice_get stems (slot_of layout k) ≡ Some slot → HasLaneBeside layout fresh k
            → Decides (lane after k) ((lane kept k ≡ true)
            × (HaveHitsIn layout (slice_range followed slot.begin slot.end) seen k → ⊥))
        narrowed k slot lt below at beside = go (cases_eq (slot_of layout k) i)
          where
            go : (slot_of layout k ≡ i) ⊎ (slot_of layout k ≢ i)
                → Decides (lane after k) ((lane kept k ≡ true)
                × (HaveHitsIn layout (slice_range followed slot.begin slot.end) seen k → ⊥))
            go (inl e) = subst (λ s. Decides (lane after k) ((lane kept k ≡ true)
                × (HaveHitsIn layout (slice_range followed s.begin s.end) seen k → ⊥)))
                (same_slot stems i (slot_of layout k) own slot (sym e) is at)
                (subst (λ b. Decides (lane after k) ((b ≡ true)
                × (HaveHitsIn layout (slice_range followed own.begin own.end) seen k → ⊥)))
                (before.beyond k lt (omega (arith, e))) (own_lanes k lt e))
            go (inr ne) = subst (λ b. Decides b ((lane kept k ≡ true)
                × (HaveHitsIn layout (slice_range followed slot.begin slot.end) seen k → ⊥)))
                (sym (others k lt ne))
                (before.narrowed k slot lt (omega (arith, below, ne)) at beside)

        stale : (k : ℕ) → k < 512 → (HasLaneBeside layout fresh k → ⊥) → lane after k ≡ lane kept k
        stale k lt none = go (cases_eq (slot_of layout k) i)
          where
            go : (slot_of layout k ≡ i) ⊎ (slot_of layout k ≢ i) → lane after k ≡ lane kept k
            go (inl e) = absurd (none (some.0, some.1, some.2 ∙ sym e, some.3))
            go (inr ne) = others k lt ne ∙ before.stale k lt none

        pub kept_narrowed : AreKeptAfter layout followed stems kept fresh seen after (i + 1)
        kept_narrowed = record {
          narrowed = narrowed;
          stale = stale;
          beyond = λ k lt up. others k lt (omega (arith, up)) ∙ before.beyond k lt (omega (
            arith,
            up,
          ));
        }

-- ---- the lanes of some classes
module _ (followed : List Followed) (i : ℕ) (one : Followed) (at : slice_get followed i ≡ Some one)
    (lanes j : ℕ) where
  pub one_of_joined : (lane lanes j ≡ true → HaveLane followed j)
      → lane (bit_or lanes one.lanes) j ≡ true → HaveLane followed j
  one_of_joined before e =
      go (or_cases (lane lanes j) (lane one.lanes j) (sym (lane_or lanes one.lanes j) ∙ e))
    where
      go : (lane lanes j ≡ true) ⊎ (lane one.lanes j ≡ true) → HaveLane followed j
      go (inl h) = before h
      go (inr h) = (one, contained followed one (at_place followed i one at), h)

  pub one_joined : ((n : ℕ) (x : Followed) → n < i → slice_get followed n ≡ Some x
      → lane x.lanes j ≡ true → lane lanes j ≡ true)
      → (n : ℕ) (x : Followed) → n < i + 1 → slice_get followed n ≡ Some x
      → lane x.lanes j ≡ true → lane (bit_or lanes one.lanes) j ≡ true
  one_joined before n x le there own = lane_or lanes one.lanes j ∙ go (at_end i n le)
    where
      right : (a b : Bool) → b ≡ true → (a || b) ≡ true
      right true b e = refl
      right false b e = e

      go : (n < i) ⊎ (n ≡ i) → (lane lanes j || lane one.lanes j) ≡ true
      go (inl less) = or_left (lane lanes j) (lane one.lanes j) (before n x less there own)
      go (inr same) =
          let is : one ≡ x = ap (λ o. unwrap_or o one) (sym at
          ∙ (ap (slice_get followed) (sym same) ∙ there)) in
          right (lane lanes j) (lane one.lanes j) (ap (λ y. lane y.lanes j) is ∙ own)
