-- The stems of a pack, slot by slot: each differs in the lanes of its slot in which a class came.
use Rattle.std.proofs.Common.{◌≡◌, ◌≢◌, ◌<◌, ◌≤◌, ◌⊎◌, ℕ, ◌+◌, refl, sym, ◌∙◌, ap, arith, inl, inr}
use Rattle.std.proofs.Common.{Bool, true, false, ◌||◌, List, length, map, set, subst}
use Rattle.std.specs.Prelude.{Contains, Some, bit_or, slice_get, slice_index_or, slice_range}
use Rattle.std.{specs.Prelude.unwrap_or, specs.Bool.Decides, proofs.lemmas.Nat.le_or_l}
use Rattle.std.proofs.lemmas.Bool.{cases_eq, false≢true, or_cases, or_left, or_right as right}
use Rattle.std.proofs.lemmas.List.{get_or-set_same, get_or-set_other}
use Rattle.bench_net.specs.Statement.{Statement}
use Rattle.list_lemmas.proofs.{Members.contained, Places.{at_place, place_within}}
use Rattle.wide_words.specs.Lanes.{Layout, lane_in, slot_of}
use Rattle.region_sim.specs.{declared.pack.Slot.Slot, Pack.{AreStarted, HaveLane, IsIn, stem_at}}
use Rattle.region_sim.proofs.PackRanges.{in_range, range_from}
use Rattle.block_sim.specs.{declared.propagation.Followed.Followed, Events.AreScheduled}
use Rattle.flat_circuit.specs.{Readers.{IsLive, Reads}, Words.lane}
use Rattle.flat_circuit.proofs.Public.{lane_or, lane_zero, mapped_at, at_end}

-- Of the first slots, as many as the number, the stems differ, each in the lanes of its own slot in
-- which a class came to it.
pub record HaveBegun (layout : Layout) (c : List Statement) (stems : List Slot)
    (followed : List Followed) (delta at : List ℕ) (mask from count : ℕ) : Type 0 where
  pub only : (s k : ℕ) → k < 512 → lane (slice_index_or delta s 0) k ≡ true
      → (s ≡ stem_at layout stems k) × (lane mask k ≡ true)
  pub lanes : (k : ℕ) → k < 512 → lane mask k ≡ true
      → ((one : Followed) × IsIn layout stems followed k one)
      × (lane (slice_index_or delta (stem_at layout stems k) 0) k ≡ true)
  pub all : (k : ℕ) (one : Followed) → k < 512 → slot_of layout k < count
      → IsIn layout stems followed k one → lane mask k ≡ true
  pub stems_alone : (s : ℕ) → slice_index_or delta s 0 ≢ 0
      → (slot : Slot) × Contains stems slot × (slot.stem ≡ s)
  pub some : (s : ℕ) → slice_index_or delta s 0 ≢ 0
      → (k : ℕ) × (k < 512) × (lane (slice_index_or delta s 0) k ≡ true)
  pub readers : (s r : ℕ) → slice_index_or delta s 0 ≢ 0 → Reads c r s → IsLive c r
      → slice_index_or at r 0 ≢ 0
  pub waiting : (r : ℕ) → slice_index_or at r 0 ≢ 0
      → (s : ℕ) × (slice_index_or delta s 0 ≢ 0) × Reads c r s × IsLive c r
  pub least : (s : ℕ) → slice_index_or delta s 0 ≢ 0 → from ≤ s

same_bits : (a b : Bool) → (a ≡ true → b ≡ true) → (b ≡ true → a ≡ true) → a ≡ b
same_bits true b f g = sym (f refl)
same_bits false true f g = g refl
same_bits false false f g = refl

module _ (layout : Layout) (c : List Statement) (stems : List Slot) (followed : List Followed) where
  -- ---- the start
  -- ---- the end
  pub all_begun : (delta at : List ℕ) (mask from count : ℕ) → length stems ≤ count
      → HaveBegun layout c stems followed delta at mask from count
      → AreStarted layout c stems followed delta at mask from
  all_begun delta at mask from count le h = record {
    only = λ s k lt on. (h.only s k lt on).0;
    kept = λ k lt. same_bits (lane mask k)
        (lane (slice_index_or delta (stem_at layout stems k) 0) k) (λ on. (h.lanes k lt on).1)
        (λ on. (h.only (stem_at layout stems k) k lt on).1);
    lanes = λ k lt on. (h.lanes k lt on).0;
    all = λ k one lt own.
        let low = place_within stems (slot_of layout k) own.slot own.stands in
        h.all k one lt (omega (arith, low, le)) own;
    stems_alone = h.stems_alone;
    some = h.some;
    readers = h.readers;
    waiting = h.waiting;
    least = h.least;
  }

  -- ---- one slot more
  module _ (delta at : List ℕ) (mask from i : ℕ)
      (h : HaveBegun layout c stems followed delta at mask from i) (own : Slot)
      (is : slice_get stems i ≡ Some own) (lanes : ℕ)
      (own_lanes : (k : ℕ) → k < 512 → slot_of layout k ≡ i → Decides (lane lanes k)
      (HaveLane (slice_range followed own.begin own.end) (lane_in layout k)))
      (others : (k : ℕ) → k < 512 → slot_of layout k ≢ i → lane lanes k ≡ false) where
    own_slot : (k : ℕ) → slot_of layout k ≡ i → (slot : Slot)
        → slice_get stems (slot_of layout k) ≡ Some slot → own ≡ slot
    own_slot k e slot stands =
        ap (λ o. unwrap_or o own) (sym is ∙ (ap (slice_get stems) (sym e) ∙ stands))

    own_stem : (k : ℕ) → slot_of layout k ≡ i → own.stem ≡ stem_at layout stems k
    own_stem k e = sym (ap (λ j. slice_index_or (map (λ slot. slot.stem) stems) j 0) e
        ∙ mapped_at (λ slot. slot.stem) stems i own is)

    -- a class that came in a lane of the slot
    comes : (k : ℕ) (one : Followed) → k < 512 → slot_of layout k ≡ i
        → IsIn layout stems followed k one → lane lanes k ≡ true
    comes k one lt e came =
        let same = own_slot k e came.slot came.stands in (own_lanes k lt e).1 (
          one,
          subst (λ slot. Contains (slice_range followed slot.begin slot.end) one) (sym same)
              (in_range followed came.slot.begin came.slot.end came.at one came.low came.high
              came.listed),
          came.comes,
        )

    -- no class came to it
    pub begun_idle : lanes ≡ 0 → HaveBegun layout c stems followed delta at mask from (i + 1)
    begun_idle none = record {
      only = h.only;
      lanes = h.lanes;
      all = λ k one lt below came. all k one lt (at_end i (slot_of layout k) below) came;
      stems_alone = h.stems_alone;
      some = h.some;
      readers = h.readers;
      waiting = h.waiting;
      least = h.least;
    }
      where
        all : (k : ℕ) (one : Followed) → k < 512 → (slot_of layout k < i) ⊎ (slot_of layout k ≡ i)
            → IsIn layout stems followed k one → lane mask k ≡ true
        all k one lt (inl below) came = h.all k one lt below came
        all k one lt (inr e) came = absurd (false≢true (sym (lane_zero k)
            ∙ (ap (λ w. lane w k) (sym none) ∙ comes k one lt e came)))

    -- some came to it
    module _ (after later : List ℕ) (all_lanes least : ℕ) (within : own.stem < length delta)
        (some_lane : (k : ℕ) × (k < 512) × (lane lanes k ≡ true))
        (changed : after ≡ set delta own.stem (bit_or (slice_index_or delta own.stem 0) lanes))
        (joined : all_lanes ≡ bit_or mask lanes) (low : least ≤ from) (low_own : least ≤ own.stem)
        (scheduled : slice_index_or delta own.stem 0 ≡ 0 → AreScheduled c own.stem at later)
        (same : slice_index_or delta own.stem 0 ≢ 0 → later ≡ at) where
      here : slice_index_or after own.stem 0 ≡ bit_or (slice_index_or delta own.stem 0) lanes
      here = ap (λ xs. slice_index_or xs own.stem 0) changed
          ∙ get_or-set_same delta own.stem (bit_or (slice_index_or delta own.stem 0) lanes) 0 within

      elsewhere : (s : ℕ) → s ≢ own.stem → slice_index_or after s 0 ≡ slice_index_or delta s 0
      elsewhere s ne = ap (λ xs. slice_index_or xs s 0) changed
          ∙ get_or-set_other delta own.stem s (bit_or (slice_index_or delta own.stem 0) lanes) 0 ne

      here_lane : (k : ℕ) → lane (slice_index_or after own.stem 0) k
          ≡ (lane (slice_index_or delta own.stem 0) k || lane lanes k)
      here_lane k = ap (λ w. lane w k) here ∙ lane_or (slice_index_or delta own.stem 0) lanes k

      mask_lane : (k : ℕ) → lane all_lanes k ≡ (lane mask k || lane lanes k)
      mask_lane k = ap (λ w. lane w k) joined ∙ lane_or mask lanes k

      in_slot : (k : ℕ) → k < 512 → lane lanes k ≡ true → slot_of layout k ≡ i
      in_slot k lt on = go (cases_eq (slot_of layout k) i)
        where
          go : (slot_of layout k ≡ i) ⊎ (slot_of layout k ≢ i) → slot_of layout k ≡ i
          go (inl e) = e
          go (inr ne) = absurd (false≢true (sym (others k lt ne) ∙ on))

      -- what differed still does
      grown : (s k : ℕ) → lane (slice_index_or delta s 0) k ≡ true
          → lane (slice_index_or after s 0) k ≡ true
      grown s k on = go (cases_eq s own.stem)
        where
          go : (s ≡ own.stem) ⊎ (s ≢ own.stem) → lane (slice_index_or after s 0) k ≡ true
          go (inl e) = ap (λ x. lane (slice_index_or after x 0) k) e ∙ (here_lane k
              ∙ or_left (lane (slice_index_or delta own.stem 0) k) (lane lanes k)
              (sym (ap (λ x. lane (slice_index_or delta x 0) k) e) ∙ on))
          go (inr ne) = ap (λ w. lane w k) (elsewhere s ne) ∙ on

      differs_still : (s : ℕ) → slice_index_or delta s 0 ≢ 0 → slice_index_or after s 0 ≢ 0
      differs_still s ne none = go (cases_eq s own.stem)
        where
          go : (s ≡ own.stem) ⊎ (s ≢ own.stem) → ⊥
          go (inl e) =
              let le = le_or_l (slice_index_or delta own.stem 0) lanes in
              let z : bit_or (slice_index_or delta own.stem 0) lanes ≡ 0 =
              sym here ∙ (sym (ap (λ x. slice_index_or after x 0) e) ∙ none) in
              let was : slice_index_or delta own.stem 0 ≡ 0 = omega (arith, le, z) in
              ne (ap (λ x. slice_index_or delta x 0) e ∙ was)
          go (inr other) = ne (sym (elsewhere s other) ∙ none)

      own_differs : slice_index_or after own.stem 0 ≢ 0
      own_differs none = false≢true (sym (lane_zero some_lane.0)
          ∙ (ap (λ w. lane w some_lane.0) (sym none) ∙ (here_lane some_lane.0
          ∙ right (lane (slice_index_or delta own.stem 0) some_lane.0) (lane lanes some_lane.0)
          some_lane.2)))

      only : (s k : ℕ) → k < 512 → lane (slice_index_or after s 0) k ≡ true
          → (s ≡ stem_at layout stems k) × (lane all_lanes k ≡ true)
      only s k lt on = go (cases_eq s own.stem)
        where
          old_one : lane (slice_index_or delta s 0) k ≡ true
              → (s ≡ stem_at layout stems k) × (lane all_lanes k ≡ true)
          old_one e = let was = h.only s k lt e in
              (was.0, mask_lane k ∙ or_left (lane mask k) (lane lanes k) was.1)

          new_one : s ≡ own.stem → lane lanes k ≡ true
              → (s ≡ stem_at layout stems k) × (lane all_lanes k ≡ true)
          new_one same e = (
            same ∙ own_stem k (in_slot k lt e),
            mask_lane k ∙ right (lane mask k) (lane lanes k) e,
          )

          go : (s ≡ own.stem) ⊎ (s ≢ own.stem)
              → (s ≡ stem_at layout stems k) × (lane all_lanes k ≡ true)
          go (inr ne) = old_one (sym (ap (λ w. lane w k) (elsewhere s ne)) ∙ on)
          go (inl e) = by (or_cases (lane (slice_index_or delta own.stem 0) k) (lane lanes k)
              (sym (here_lane k) ∙ (sym (ap (λ x. lane (slice_index_or after x 0) k) e) ∙ on)))
            where
              by : (lane (slice_index_or delta own.stem 0) k ≡ true) ⊎ (lane lanes k ≡ true)
                  → (s ≡ stem_at layout stems k) × (lane all_lanes k ≡ true)
              by (inl was) = old_one (ap (λ x. lane (slice_index_or delta x 0) k) e ∙ was)
              by (inr new) = new_one e new

      lanes_now : (k : ℕ) → k < 512 → lane all_lanes k ≡ true
          → ((one : Followed) × IsIn layout stems followed k one)
          × (lane (slice_index_or after (stem_at layout stems k) 0) k ≡ true)
      lanes_now k lt on = go (or_cases (lane mask k) (lane lanes k) (sym (mask_lane k) ∙ on))
        where
          go : (lane mask k ≡ true) ⊎ (lane lanes k ≡ true)
              → ((one : Followed) × IsIn layout stems followed k one)
              × (lane (slice_index_or after (stem_at layout stems k) 0) k ≡ true)
          go (inl was) = let one = h.lanes k lt was in
              (one.0, grown (stem_at layout stems k) k one.1)
          go (inr new) =
              let e = in_slot k lt new in
              let some = (own_lanes k lt e).0 new in
              let place = range_from followed own.begin own.end some.0 some.1 in (
                (
                  some.0,
                  record {
                    slot = own;
                    at = place.0;
                    stands = ap (slice_get stems) e ∙ is;
                    low = place.1;
                    high = place.2;
                    listed = place.3;
                    comes = some.2;
                  },
                ),
                ap (λ x. lane (slice_index_or after x 0) k) (sym (own_stem k e)) ∙ (here_lane k
                    ∙ right (lane (slice_index_or delta own.stem 0) k) (lane lanes k) new),
              )

      all_now : (k : ℕ) (one : Followed) → k < 512 → (slot_of layout k < i) ⊎ (slot_of layout k ≡ i)
          → IsIn layout stems followed k one → lane all_lanes k ≡ true
      all_now k one lt (inl below) came = mask_lane k
          ∙ or_left (lane mask k) (lane lanes k) (h.all k one lt below came)
      all_now k one lt (inr e) came = mask_lane k
          ∙ right (lane mask k) (lane lanes k) (comes k one lt e came)

      -- ---- the gates that wait
      waits_still : (r : ℕ) → slice_index_or at r 0 ≢ 0 → slice_index_or later r 0 ≢ 0
      waits_still r ne = go (cases_eq (slice_index_or delta own.stem 0) 0)
        where
          go : (slice_index_or delta own.stem 0 ≡ 0) ⊎ (slice_index_or delta own.stem 0 ≢ 0)
              → slice_index_or later r 0 ≢ 0
          go (inr some) = λ z. ne (sym (ap (λ xs. slice_index_or xs r 0) (same some)) ∙ z)
          go (inl none) = by ((scheduled none).only r)
            where
              by : (slice_index_or later r 0 ≡ slice_index_or at r 0)
                  ⊎ ((Reads c r own.stem × IsLive c r) × (slice_index_or later r 0 ≢ 0))
                  → slice_index_or later r 0 ≢ 0
              by (inl e) = λ z. ne (sym e ∙ z)
              by (inr w) = w.1

      readers_now : (s r : ℕ) → slice_index_or after s 0 ≢ 0 → Reads c r s → IsLive c r
          → slice_index_or later r 0 ≢ 0
      readers_now s r ne reads live = go (cases_eq s own.stem)
        where
          go : (s ≡ own.stem) ⊎ (s ≢ own.stem) → slice_index_or later r 0 ≢ 0
          go (inr other) = waits_still r
              (h.readers s r (λ z. ne (elsewhere s other ∙ z)) reads live)
          go (inl e) = by (cases_eq (slice_index_or delta own.stem 0) 0)
            where
              reads_own : Reads c r own.stem
              reads_own = subst (Reads c r) e reads

              by : (slice_index_or delta own.stem 0 ≡ 0) ⊎ (slice_index_or delta own.stem 0 ≢ 0)
                  → slice_index_or later r 0 ≢ 0
              by (inl none) = (scheduled none).readers r reads_own live
              by (inr some) = waits_still r (h.readers own.stem r some reads_own live)

      waiting_now : (r : ℕ) → slice_index_or later r 0 ≢ 0
          → (s : ℕ) × (slice_index_or after s 0 ≢ 0) × Reads c r s × IsLive c r
      waiting_now r ne = go (cases_eq (slice_index_or delta own.stem 0) 0)
        where
          before : slice_index_or at r 0 ≢ 0
              → (s : ℕ) × (slice_index_or after s 0 ≢ 0) × Reads c r s × IsLive c r
          before some = let by = h.waiting r some in
              (by.0, differs_still by.0 by.1, by.2, by.3)

          go : (slice_index_or delta own.stem 0 ≡ 0) ⊎ (slice_index_or delta own.stem 0 ≢ 0)
              → (s : ℕ) × (slice_index_or after s 0 ≢ 0) × Reads c r s × IsLive c r
          go (inr some) = before (λ z. ne (ap (λ xs. slice_index_or xs r 0) (same some) ∙ z))
          go (inl none) = by ((scheduled none).only r)
            where
              by : (slice_index_or later r 0 ≡ slice_index_or at r 0)
                  ⊎ ((Reads c r own.stem × IsLive c r) × (slice_index_or later r 0 ≢ 0))
                  → (s : ℕ) × (slice_index_or after s 0 ≢ 0) × Reads c r s × IsLive c r
              by (inl e) = before (λ z. ne (e ∙ z))
              by (inr w) = (own.stem, own_differs, w.0.0, w.0.1)

      pub begun_more : HaveBegun layout c stems followed after later all_lanes least (i + 1)
      begun_more = record {
        only = only;
        lanes = lanes_now;
        all = λ k one lt below came. all_now k one lt (at_end i (slot_of layout k) below) came;
        stems_alone = λ s ne. stem s ne (cases_eq s own.stem);
        some = λ s ne. some s ne (cases_eq s own.stem);
        readers = readers_now;
        waiting = waiting_now;
        least = λ s ne. behind s ne (cases_eq s own.stem);
      }
        where
          stem : (s : ℕ) → slice_index_or after s 0 ≢ 0 → (s ≡ own.stem) ⊎ (s ≢ own.stem)
              → (slot : Slot) × Contains stems slot × (slot.stem ≡ s)
          stem s ne (inl e) = (own, contained stems own (at_place stems i own is), sym e)
          stem s ne (inr other) = h.stems_alone s (λ z. ne (elsewhere s other ∙ z))

          some : (s : ℕ) → slice_index_or after s 0 ≢ 0 → (s ≡ own.stem) ⊎ (s ≢ own.stem)
              → (k : ℕ) × (k < 512) × (lane (slice_index_or after s 0) k ≡ true)
          some s ne (inl e) = (
            some_lane.0,
            some_lane.1,
            ap (λ x. lane (slice_index_or after x 0) some_lane.0) e ∙ (here_lane some_lane.0
                ∙ right (lane (slice_index_or delta own.stem 0) some_lane.0)
                (lane lanes some_lane.0) some_lane.2),
          )
          some s ne (inr other) = let k = h.some s (λ z. ne (elsewhere s other ∙ z)) in
              (k.0, k.1, ap (λ w. lane w k.0) (elsewhere s other) ∙ k.2)

          behind : (s : ℕ) → slice_index_or after s 0 ≢ 0 → (s ≡ own.stem) ⊎ (s ≢ own.stem)
              → least ≤ s
          behind s ne (inl e) = omega (arith, low_own, e)
          behind s ne (inr other) = let le = h.least s (λ z. ne (elsewhere s other ∙ z)) in
              omega (arith, low, le)
