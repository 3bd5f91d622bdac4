-- Several regions that are followed in one pack, and what is found of all of their classes.
use Rattle.std.proofs.Common.{◌≡◌, ◌+◌, ◌-◌, ◌<◌, ◌≤◌, ◌⊎◌, inl, inr, ℕ, refl, sym, ◌∙◌, ap, subst}
use Rattle.std.proofs.Common.{List, [], ◌∷◌, ◌++◌, length, arith, All, Bool, Option, Some, true}
use Rattle.std.{proofs.Common.{false, map}, specs.Option.option_map, proofs.lemmas.Bool.cases_lt}
use Rattle.std.specs.Prelude.{◌↔◌, Contains, bit_and, slice_get, slice_index_or}
use Rattle.std.proofs.lemmas.List.{append-nil, append_assoc, length-append}
use Rattle.std.proofs.lemmas.Option.{get_or_from_slice_get, slice_get-get_or, slice_get-map}
use Rattle.std.proofs.lemmas.Option.{slice_get_within}
use Rattle.list_lemmas.proofs.Members.{Among, among, among_append, among_left, among_right}
use Rattle.list_lemmas.proofs.Members.{contained}
use Rattle.bench_net.specs.{Statement.Statement, Scan.names, Circuit.IsWellFormed}
use Rattle.fault_model.specs.{Reordered.{IsReordered, place}, Solution.Test}
use Rattle.wide_words.specs.Lanes.{IsLayout, Layout, lane_in, slot_of, slots}
use Rattle.flat_circuit.specs.{declared.block_span.BlockSpan.BlockSpan, Readers.IsObserved}
use Rattle.flat_circuit.specs.{declared.origin.ListedClass.ListedClass, Words.{lane, test_of}}
use Rattle.flat_circuit.specs.BlockSpans.{IsSpan, group_of}
use Rattle.region_sim.specs.{declared.pack.Slot.Slot, OpenPlaces.AreSettled, Arrivals.HasArrived}
use Rattle.region_sim.specs.{Pack.{IsIn, TellsPack, stem_at}, Goals.{HasTakenAt, HasTakenSpan}}
use Rattle.region_sim.specs.RegionHits.{AreApart, AreCopied, AreFollowedAt, AreGathered, AreInOrder}
use Rattle.region_sim.specs.RegionHits.{AreOpen, AreSlotsConcluded, AreStill, HasAdded}
use Rattle.region_sim.specs.RegionHits.{HaveTakenBut, HaveTakenOpen, IsFollowedAt, IsGathered}
use Rattle.region_sim.specs.RegionHits.{IsInSlot, IsPart, IsTakenOrFollowed}
use Rattle.region_sim.proofs.{Arrivals.{arrived_within, followed_more}, RegionHits.taken_over}
use Rattle.region_sim.proofs.{ListParts.{get_left, get_right}, PackSlots.{lane_of_slot, placed}}
use Rattle.region_sim.proofs.RegionHits.{at_over, followed_or_not, member_at, place_of_member}
use Rattle.region_sim.proofs.SpanHits.{takes_span, tells_arrived}
use Rattle.block_sim.specs.{declared.propagation.Followed.Followed, Parts.Parts, Flips.DetectsFlip}
use Rattle.block_sim.proofs.Public.{same_flips}

-- ---- classes that are followed
pub added_none : (job : Parts) (span : BlockSpan) (signal : ℕ) (old : List Followed)
    → HasAdded job span signal old old
added_none job span signal old =
    ([], sym (append-nil old), λ one there. let bad = there.1 in absurd (omega (arith, bad)))

pub added_more : {K : Type 0} (means : (ℕ → Bool) → ℕ → ℕ → K → Type 0) (job : Parts)
    (span : BlockSpan) (row : ListedClass) (p signal : ℕ) (first was followed : List Followed)
    (old now : List K) → IsTakenOrFollowed means job span row p was followed old now
    → row.stem ≡ signal
    → row.class < length job.classes.representative → HasAdded job span signal first was
    → HasAdded job span signal first followed
added_more means job span row p signal first was followed old now (inl s) of within a =
    (a.0, s.0 ∙ a.1, a.2)
added_more means job span row p signal first was followed old now (inr s) of within a = (
  a.0 ++ s.1 ∷ [],
  s.5 ∙ (ap (λ l. l ++ s.1 ∷ []) a.1 ∙ append_assoc first a.0 (s.1 ∷ [])),
  followed_more job span signal a.0 s.1 a.2 (let class = s.2 in omega (arith, class, within))
      (subst (λ n. HasArrived job span n s.1.class s.1.lanes) of s.4),
)

-- ---- one region more
module _ {K : Type 0} (is_open : K → Bool) (means : (ℕ → Bool) → ℕ → ℕ → K → Type 0) (job : Parts)
    (c : List Statement) (span : BlockSpan) (rows : List ListedClass) (before : List K)
    (first p q : ℕ) (le : p ≤ q) where
  slot_over : (followed more : List Followed) (slot : Slot)
      → IsGathered is_open job c span rows before first p followed slot
      → IsGathered is_open job c span rows before first q (followed ++ more) slot
  slot_over followed more slot g =
      let high = g.high in
      let end = g.within.1 in
      let long = length-append followed more in
      record {
        at = g.at;
        row = g.row;
        low = g.low;
        high = omega (arith, high, le);
        idle = g.idle;
        stem = g.stem;
        hidden = g.hidden;
        within = (g.within.0, omega (arith, end, long));
        came = λ i one low lt is.
            g.came i one low lt (sym (get_left followed more i (omega (arith, lt, end))) ∙ is);
      }

  abbrev Gathered : ℕ → List Slot → List Followed → List K → Type 0
  Gathered to stems followed now = AreGathered is_open means job c span rows first to stems followed
      before now

  pub gathered_over : (stems : List Slot) (followed : List Followed) (now : List K)
      → AreSettled is_open before p q → Gathered p stems followed now
      → Gathered q stems followed now
  gathered_over stems followed now settled g = record {
    taken = taken_over is_open rows before first p q le settled means job span followed now g.taken;
    at = at_over rows first p q le followed g.at;
    ordered = g.ordered;
    idle = g.idle;
    still = g.still;
    apart = g.apart;
    each = λ slot there. subst
        (λ l. IsGathered is_open job c span rows before first q l slot) (append-nil followed)
        (slot_over followed [] slot (g.each slot there));
    whole = g.whole;
  }

  module _ (stems more : List Slot) (old new : List Followed) (was now : List K)
      (row : ListedClass) (slot : Slot) (le_first : first ≤ p) (lt : p < q)
      (is : slice_get rows p ≡ Some row) (one : K) (one_is : slice_get before p ≡ Some one)
      (wanted : is_open one ≡ true)
      (stem : slot.stem ≡ place job.circuit c row.stem) (within : slot.stem < length (names c))
      (begin : slot.begin ≡ length old) (end : slot.end ≡ length new)
      (some : slot.begin < slot.end → more ≡ stems ++ slot ∷ [])
      (none : slot.end ≤ slot.begin → more ≡ stems) (added : HasAdded job span row.stem old new)
      (hidden : (new ≡ old) ⊎ (IsObserved c slot.stem → ⊥))
      (taken : HaveTakenBut is_open means job span rows new first q before now)
      (at : AreFollowedAt rows first q new) (ordered : AreInOrder new)
      (idle : AreOpen is_open before new) (still : AreStill new before now)
      (g : Gathered p stems old was) where
    long : length new ≡ length old + length added.0
    long = ap length added.1 ∙ length-append old added.0

    kept : (s : Slot) → Contains stems s → IsGathered is_open job c span rows before first q new s
    kept s there = subst (λ l. IsGathered is_open job c span rows before first q l s) (sym added.1)
        (slot_over old added.0 s (g.each s there))

    own : (slot.begin < slot.end) → IsGathered is_open job c span rows before first q new slot
    own up = record {
      at = p;
      row = row;
      low = le_first;
      high = lt;
      idle = record { row_is = is; one = one; kept_is = one_is; wanted = wanted };
      stem = stem;
      hidden = (within, unseen hidden);
      within = (omega (arith, up), omega (arith, end));
      came = λ i x low high there. (added.2 x (member_at added.0 (i - length old) x
          (sym (get_right old added.0 (i - length old))
          ∙ (ap (slice_get (old ++ added.0)) (at_place i low)
          ∙ (ap (λ l. slice_get l i) (sym added.1) ∙ there))))).1;
    }
      where
        at_place : (i : ℕ) → slot.begin ≤ i → length old + (i - length old) ≡ i
        at_place i low = omega (arith, low, begin)

        unseen : (new ≡ old) ⊎ (IsObserved c slot.stem → ⊥) → IsObserved c slot.stem → ⊥
        unseen (inl same) o = let l = ap length same in omega (arith, l, up, begin, end)
        unseen (inr h) o = h o

    -- the new slot comes behind the others
    apart_more : AreApart (stems ++ slot ∷ [])
    apart_more i k s t lt s_is t_is = by (cases_lt k (length stems))
      where
        long_stems : length (stems ++ slot ∷ []) ≡ length stems + 1
        long_stems = length-append stems (slot ∷ [])

        last : k < length (stems ++ slot ∷ [])
        last = slice_get_within (stems ++ slot ∷ []) k t t_is

        low_i : i < length stems
        low_i = omega (arith, lt, last, long_stems)

        own_s : slice_get stems i ≡ Some s
        own_s = sym (get_left stems (slot ∷ []) i low_i) ∙ s_is

        by : (k < length stems) ⊎ (length stems ≤ k) → s.end ≤ t.begin
        by (inl less) = g.apart i k s t lt own_s (sym (get_left stems (slot ∷ []) k less) ∙ t_is)
        by (inr up) =
            let at_end : length stems + 0 ≡ k = omega (arith, up, last, long_stems) in
            let both : Some slot ≡ Some t = sym (get_right stems (slot ∷ []) 0)
            ∙ (ap (slice_get (stems ++ slot ∷ [])) at_end ∙ t_is) in
            let same : slot ≡ t = cc in
            let starts = ap (λ (x : Slot). x.begin) same in
            let within_old = (g.each s (member_at stems i s own_s)).within.1 in
            omega (arith, starts, within_old, begin)

    pub gathered_more : Gathered q more new now
    gathered_more = go (cases_lt slot.begin slot.end)
      where
        with_slot : (up : slot.begin < slot.end) → (s : Slot) → Among s stems ⊎ Among s (slot ∷ [])
            → IsGathered is_open job c span rows before first q new s
        with_slot up s (inl h) = kept s (contained stems s h)
        with_slot up s (inr (inl same)) =
            subst (IsGathered is_open job c span rows before first q new) same (own up)
        with_slot up s (inr (inr bad)) = absurd bad

        whole_with : (i : ℕ) → i < length new → (i < length old) ⊎ (length old ≤ i)
            → (s : Slot) × Contains (stems ++ slot ∷ []) s × (s.begin ≤ i) × (i < s.end)
        whole_with i below (inl low) = let w = g.whole i low in (
          w.0,
          contained (stems ++ slot ∷ []) w.0
              (among_left stems (slot ∷ []) w.0 (among stems w.0 w.1)),
          w.2,
          w.3,
        )
        whole_with i below (inr high) = (
          slot,
          contained (stems ++ slot ∷ []) slot (among_right stems (slot ∷ []) slot (inl refl)),
          omega (arith, high, begin),
          omega (arith, below, end),
        )

        go : (slot.begin < slot.end) ⊎ (slot.end ≤ slot.begin) → Gathered q more new now
        go (inl up) = subst (λ l. Gathered q l new now) (sym (some up)) (record {
          taken = taken;
          at = at;
          ordered = ordered;
          idle = idle;
          still = still;
          each = λ s there. with_slot up s (among_append stems (slot ∷ []) s
              (among (stems ++ slot ∷ []) s there));
          apart = apart_more;
          whole = λ i below. whole_with i below (cases_lt i (length old));
        })
        go (inr down) = subst (λ l. Gathered q l new now) (sym (none down)) (record {
          taken = taken;
          at = at;
          ordered = ordered;
          idle = idle;
          still = still;
          each = kept;
          apart = g.apart;
          whole = λ i below. g.whole i (omega (arith, below, begin, end, down));
        })

pub gathered_none : {K : Type 0} (is_open : K → Bool) (means : (ℕ → Bool) → ℕ → ℕ → K → Type 0)
    (job : Parts) (c : List Statement) (span : BlockSpan) (rows : List ListedClass) (from : ℕ)
    (stems : List Slot) (followed : List Followed) (kept : List K) → stems ≡ [] → followed ≡ []
    → AreGathered is_open means job c span rows from from stems followed kept kept
gathered_none is_open means job c span rows from stems followed kept no_stems no_classes =
    subst (λ l. AreGathered is_open means job c span rows from from l followed kept kept)
    (sym no_stems) (subst (λ l. AreGathered is_open means job c span rows from from [] l kept kept)
    (sym no_classes) (record {
      taken = λ k row le lt idle. absurd (omega (arith, le, lt));
      at = λ one there. (let bad = there.1 in absurd (omega (arith, bad)));
      ordered = λ i k one other lt is there.
          (let bad = slice_get_within [] i one is in absurd (omega (arith, bad)));
      idle = λ one there. (let bad = there.1 in absurd (omega (arith, bad)));
      still = λ one there. (let bad = there.1 in absurd (omega (arith, bad)));
      each = λ slot there. (let bad = there.1 in absurd (omega (arith, bad)));
      apart = λ i k one other lt is there.
          (let bad = slice_get_within [] i one is in absurd (omega (arith, bad)));
      whole = λ i lt. absurd (omega (arith, lt));
    }))

-- ---- what a pack tells of one slot
module _ (layout : Layout) (stems : List Slot) (i : ℕ) (slot : Slot)
    (stands : slice_get stems i ≡ Some slot) where
  pub stem_is : (m : ℕ) → slot_of layout m ≡ i → stem_at layout stems m ≡ slot.stem
  stem_is m same = ap (λ n. slice_index_or (map (λ (s : Slot). s.stem) stems) n 0) same
      ∙ get_or_from_slice_get (map (λ (s : Slot). s.stem) stems) i slot.stem 0
      (slice_get-map (λ (s : Slot). s.stem) stems i
      ∙ ap (λ (o : Option Slot). option_map (λ (s : Slot). s.stem) o) stands)

  module _ (sized : IsLayout layout) (c : List Statement) (tests : List Test) (group : ℕ)
      (followed : List Followed) (wide word : ℕ) (few : length stems ≤ slots layout) (every : Bool)
      (told : TellsPack every layout c tests (λ slot. group) stems followed wide)
      (part : IsPart layout wide i word) (one : Followed) (at : ℕ) (low : slot.begin ≤ at)
      (high : at < slot.end) (listed : slice_get followed at ≡ Some one)
      (inside : (k : ℕ) → k < 128 → lane one.lanes k ≡ true
      → (layout.base ≤ k) × (k < layout.base + layout.size)) where
    below : i < slots layout
    below = let lt = slice_get_within stems i slot stands in omega (arith, lt, few)

    pub part_right : (k : ℕ) → k < 128 → lane one.lanes k ≡ true → lane word k ≡ true
        → DetectsFlip c (test_of tests group k) slot.stem
    part_right k lt own e =
        let m = lane_of_slot layout sized i wide word below part.own part.rest k e in
        let in_stems = slice_get_within stems i slot stands in
        let number = m.2 in
        subst (λ j. DetectsFlip c (test_of tests group j) slot.stem) m.3
        (subst (DetectsFlip c (test_of tests group (lane_in layout m.0))) (stem_is m.0 m.2)
        (told.found m.0 m.1 m.4 (subst (λ n. n < length stems) (sym number) in_stems)))

    pub part_missed : (k : ℕ) → k < 128 → lane one.lanes k ≡ true → lane word k ≡ false
        → (every ≡ true) ⊎ ((j : ℕ) → j < k → lane one.lanes j ≡ true → lane word j ≡ false)
        → DetectsFlip c (test_of tests group k) slot.stem → ⊥
    part_missed k lt own off least d =
        let range = inside k lt own in
        let m = placed layout sized i k below range.0 range.1 in
        let here : IsIn layout stems followed m.0 one = record {
          slot = slot;
          at = at;
          stands = ap (slice_get stems) m.2 ∙ stands;
          low = low;
          high = high;
          listed = listed;
          comes = ap (lane one.lanes) m.3 ∙ own;
        } in
        told.clear m.0 one m.1 here (sym (part.own m.0 m.1 m.2) ∙ (ap (lane word) m.3 ∙ off))
        (none_below m.0 m.2 m.3 least)
        (subst (DetectsFlip c (test_of tests group (lane_in layout m.0))) (sym (stem_is m.0 m.2))
        (subst (λ j. DetectsFlip c (test_of tests group j) slot.stem) (sym m.3) d))
      where
        none_below : (m : ℕ) → slot_of layout m ≡ i → lane_in layout m ≡ k
            → (every ≡ true) ⊎ ((j : ℕ) → j < k → lane one.lanes j ≡ true → lane word j ≡ false)
            → (every ≡ true) ⊎ ((j : ℕ) → j < 512 → slot_of layout j ≡ slot_of layout m
            → lane_in layout j ≤ lane_in layout m → lane one.lanes (lane_in layout j) ≡ true
            → lane wide j ≡ false)
        none_below m in_slot in_lane (inl on) = inl on
        none_below m in_slot in_lane (inr none) = inr (λ j less same le on.
            sym (part.own j less (same ∙ in_slot)) ∙ go j le on (cases_lt (lane_in layout j) k))
          where
            go : (j : ℕ) → lane_in layout j ≤ lane_in layout m
                → lane one.lanes (lane_in layout j) ≡ true
                → (lane_in layout j < k) ⊎ (k ≤ lane_in layout j)
                → lane word (lane_in layout j) ≡ false
            go j le on (inl lower) = none (lane_in layout j) lower on
            go j le on (inr upper) =
                let same : k ≡ lane_in layout j = omega (arith, le, upper, in_lane) in
                ap (lane word) (sym same) ∙ off

-- ---- what is taken of all classes of a pack
module _ {K : Type 0} (is_open : K → Bool) (every : Bool)
    (means : (ℕ → Bool) → ℕ → ℕ → K → Type 0) (job : Parts) (c : List Statement) (span : BlockSpan)
    (rows : List ListedClass) (from to : ℕ) (stems : List Slot) (followed : List Followed)
    (before mid now : List K) (layout : Layout) (sized : IsLayout layout) (wide : ℕ)
    (well : IsWellFormed job.circuit) (reordered : IsReordered job.circuit c)
    (is : IsSpan (length job.tests.tests) span) (few : length stems ≤ slots layout)
    (copied : AreCopied layout (length job.tests.tests) span)
    (told : TellsPack every layout c job.tests.tests (λ slot. group_of span) stems followed wide)
    (concluded : AreSlotsConcluded every means layout span wide followed stems (length stems) mid
    now) (g : AreGathered is_open means job c span rows from to stems followed before mid) where
  in_some_slot : (place : ℕ) → IsFollowedAt followed place
      → IsInSlot followed stems (length stems) place
  in_some_slot place h =
      let i = place_of_member followed h.0 h.1 in
      let w = g.whole i.0 (slice_get_within followed i.0 h.0 i.1) in
      let s = place_of_member stems w.0 w.1 in
      record {
        number = s.0;
        below = slice_get_within stems s.0 w.0 s.1;
        slot = w.0;
        stands = s.1;
        at = i.0;
        low = w.2;
        high = w.3;
        one = h.0;
        listed = i.1;
        there = h.2;
      }

  in_none : (place : ℕ) → (IsFollowedAt followed place → ⊥)
      → IsInSlot followed stems (length stems) place → ⊥
  in_none place none h = none (h.one, member_at followed h.at h.one h.listed, h.there)

  pub taken_all : HaveTakenOpen is_open means job span rows from to before now
  taken_all place row le lt idle = go (followed_or_not followed place)
    where
      untouched : (IsFollowedAt followed place → ⊥) → HasTakenAt means job span row before mid place
          ⊎ (IsFollowedAt followed place × (slice_get mid place ≡ slice_get before place))
          → HasTakenAt means job span row before now place
      untouched none (inl h) =
          (h.0, h.1, h.2, concluded.others place (in_none place none) ∙ h.3, h.4)
      untouched none (inr h) = absurd (none h.0)

      go : IsFollowedAt followed place ⊎ (IsFollowedAt followed place → ⊥)
          → HasTakenAt means job span row before now place
      go (inr none) = untouched none (g.taken place row le lt idle)
      go (inl h) =
          let t = concluded.each place (in_some_slot place h) in
          let x = t.class in
          let one = x.one in
          let slot = x.slot in
          let own = g.each slot (member_at stems x.number slot x.stands) in
          let came = own.came x.at one x.low x.high x.listed in
          let tests = job.tests.tests in
          let inside = λ (k : ℕ) (less : k < 128) (on : lane one.lanes k ≡ true).
          copied k less (arrived_within job span own.row.stem one.class one.lanes came k less on) in
          let flips : (k : ℕ) → DetectsFlip job.circuit (test_of tests (group_of span) k)
          own.row.stem ↔ DetectsFlip c (test_of tests (group_of span) k) slot.stem = λ k.
          subst (λ s. DetectsFlip job.circuit (test_of tests (group_of span) k) own.row.stem
          ↔ DetectsFlip c (test_of tests (group_of span) k) s) (sym own.stem)
          ((same_flips job.circuit c well reordered).detected (test_of tests (group_of span) k)
          own.row.stem) in
          let member = member_at followed x.at one x.listed in
          let at = g.at one member in
          let both : Some at.2 ≡ Some row = sym at.3 ∙ (ap (slice_get rows) x.there ∙ idle.row_is)
          in
          let same : at.2 ≡ row = cc in
          let class : one.class ≡ row.class = sym at.4 ∙ ap (λ (r : ListedClass). r.class) same in
          let took = t.taken in
          let unchanged = subst (λ n. slice_get mid n ≡ slice_get before n) x.there
          (g.still one member) in (
            took.0,
            took.1,
            sym unchanged ∙ took.2,
            took.3,
            subst (λ n. HasTakenSpan means job span n took.0 took.1) class
                (takes_span every means job span one.class (bit_and one.lanes t.word) took.0 took.1
                took.4 (λ hits are. tells_arrived job span one.class is every hits are own.row.stem
                one.lanes t.word came
                (λ k less on lit. (flips k).1 (part_right layout stems x.number slot x.stands sized
                c tests (group_of span) followed wide t.word few every told t.part one x.at x.low
                x.high x.listed inside k less on lit))
                (λ k less on off least d. part_missed layout stems x.number slot x.stands sized
                c tests (group_of span) followed wide t.word few every told t.part one x.at x.low
                x.high x.listed inside k less on off least ((flips k).0 d)))),
          )

-- ---- the gates that a pack makes active
-- what is true of each slot
pub all_slots : (P : Slot → Type 0) (stems : List Slot) → ((slot : Slot) → Contains stems slot
    → P slot) → All P stems
all_slots P stems each = λ i d lt. each (slice_index_or stems i d)
    (member_at stems i (slice_index_or stems i d) (slice_get-get_or stems i d lt))
