-- The last tests of the classes of a job, taken from the last test on.
use Rattle.std.proofs.Common.{◌≡◌, ◌<◌, ◌≤◌, ◌+◌, ◌-◌, ◌*◌, ◌^◌, ◌==◌, ◌∙◌, ◌⊎◌, ℕ, suc, Bool, true}
use Rattle.std.proofs.Common.{false, List, ap, arith, get_or, inl, inr, length, refl, subst}
use Rattle.std.{proofs.Common.{replicate, sym}, proofs.lemmas.List.get_or-replicate}
use Rattle.std.proofs.lemmas.List.{get_or_past, length-replicate}
use Rattle.std.{specs.Int.bit_at, specs.Prelude.slice_get, proofs.Math.Nat.pow-succ'}
use Rattle.std.specs.Prelude.{Contains, None, Option, Some, unwrap_or}
use Rattle.std.specs.Bool.{Decides}
use Rattle.std.proofs.lemmas.Bool.{cases_lt, false≢true, cases_Bool as bit_cases}
use Rattle.std.proofs.lemmas.Nat.Bits.{bit_at_above, bit_at_cat_high}
use Rattle.std.proofs.lemmas.Option.{get_or_from_slice_get, slice_get-get_or, slice_get_within}
use Rattle.list_lemmas.proofs.Places.{place_within, within_place}
use Rattle.fault_model.specs.{Collapse.{Collapsed, representatives}, Detection.DetectsAt}
use Rattle.fault_model.{specs.Fault.{Fault, faults}, proofs.Public.own_class}
use Rattle.patterns.specs.Tests.{TestList, blocks}
use Rattle.block_sim.specs.Parts.{BelongTogether, Parts, with_tests}
use Rattle.block_sim.proofs.Public.{which_detect}
use Rattle.flat_circuit.{specs.Words.lane, proofs.Public.lane_zero}
use Rattle.region_sim.specs.Goals.{AreHits, TellHits}
use Rattle.region_runs.{specs.Tasks.{AreKept, task_of}, proofs.Public.{looks_down, looks_up}}
use Rattle.region_runs.specs.Windows.{IsWindowOf}
use Rattle.region_sim.specs.ClassOrder.{AreAllByRegion}
use Rattle.compaction.specs.{Compaction.IsLastForSome, LastHits.IsLastHit}
use Rattle.compaction.{specs.LastHitLaws.last_unchanged, proofs.DetectedClasses.class_count}
use Rattle.compaction.specs.Marks.{AreLasting, IsLast, IsLastOfClass}
use Rattle.compaction.specs.Turns.{AreLastFrom, AreLeftOpen, HaveMarked, IsNextEnd, NoneFrom}
use Rattle.compaction.proofs.OrderedTests.{as_class, as_fault, class_of}

-- ---- lanes of a word

-- the lane of the highest bit is 1
pub top_lane : (word k : ℕ) → 2 ^ k ≤ word → word < 2 * 2 ^ k → lane word k ≡ true
top_lane word k low high =
    let whole : 1 * 2 ^ k + (word - 2 ^ k) ≡ word = omega (arith, low) in
    let one : bit_at word k ≡ 1 =
    subst (λ w. bit_at w k ≡ 1) whole (bit_at_cat_high 1 k (word - 2 ^ k) k (omega
    (arith, high, low))
    (omega arith) ∙ ap (bit_at 1) (let none : k - k ≡ 0 = omega arith in none)) in
    ap (λ b. b == 1) one

-- and no lane above it is
pub no_lane_above : (word k j : ℕ) → word < 2 * 2 ^ k → k < j → lane word j ≡ false
no_lane_above word k j high above =
    let past : word < 2 ^ suc k = subst (λ n. word < n) (sym (pow-succ' 2 k)) high in
    ap (λ b. b == 1) (bit_at_above word (suc k) j past (omega (arith, above)))

module _ (hits : ℕ → Bool) (first low from to word : ℕ) (le : low ≤ from)
    (tells : TellHits true hits first from to word) where
  -- the highest lane is the last hit
  pub last_taken : (k : ℕ) → k < 128 → 2 ^ k ≤ word → word < 2 * 2 ^ k
      → IsLastHit hits low to (Some (first + k))
  last_taken k small under over =
      let r = tells.right k small (top_lane word k under over) in
      let above = r.0 in (
        omega (arith, le, above),
        r.1,
        r.2,
        λ later after below. go later after below (bit_cases (hits later)),
      )
    where
      go : (later : ℕ) → first + k < later → later < to
          → (hits later ≡ true) ⊎ (hits later ≡ false) → hits later ≡ false
      go later after below (inr off) = off
      go later after below (inl on) =
          let r = tells.right k small (top_lane word k under over) in
          let from_first = r.0 in
          let j = later - first in
          let same : first + j ≡ later = omega (arith, after) in
          let lit = tells.whole j (omega (arith, same, after, from_first))
          (omega (arith, same, below)) (ap hits same ∙ on) (inl refl) in
          absurd (false≢true (sym (no_lane_above word k j over (omega (arith, same, after))) ∙ lit))

  -- without a lane the last hit stays
  pub none_taken : (kept : Option ℕ) → word ≡ 0 → IsLastHit hits low from kept
      → IsLastHit hits low to kept
  none_taken kept none was =
      let ordered = tells.ordered in
      last_unchanged kept hits low from to ordered
      (λ t above below. go t above below (bit_cases (hits t))) was
    where
      go : (t : ℕ) → from ≤ t → t < to → (hits t ≡ true) ⊎ (hits t ≡ false) → hits t ≡ false
      go t above below (inr off) = off
      go t above below (inl on) =
          let start = tells.low in
          let j = t - first in
          let same : first + j ≡ t = omega (arith, above, start) in
          let lit = tells.whole j (omega (arith, same, above)) (omega (arith, same, below))
          (ap hits same ∙ on) (inl refl) in
          absurd (false≢true (sym (ap (λ w. lane w j) none ∙ lane_zero j) ∙ lit))

-- ---- the tests of a turn

module _ (p : Parts) (all some : TestList) (b : BelongTogether p) (start end half : ℕ)
    (of : IsWindowOf all.tests start end some.tests) (even : start ≡ 2 * half) where
  -- what a test of the turn detects, the test of the list detects
  up : (f : Fault) (k : ℕ) → DetectsAt p.circuit some.tests f k
      → DetectsAt p.circuit all.tests f (start + k)
  up f k d =
      let lt = slice_get_within some.tests k d.0 d.1 in (
        d.0,
        sym (of.each k lt) ∙ d.1,
        d.2,
        looks_up p.circuit all.tests some.tests start end f.model f.line f.stuck half k of even lt
            d.3,
      )

  -- and the other way round, but for the first test of a turn
  down : (f : Fault) (t : ℕ) → start ≤ t → t < end → (start ≡ 0) ⊎ (start < t)
      → DetectsAt p.circuit all.tests f t
      → (k : ℕ) × (start + k ≡ t) × DetectsAt p.circuit some.tests f k
  down f t le lt after d =
      let k = t - start in
      let same : start + k ≡ t = omega (arith, le) in
      let own = subst (DetectsAt p.circuit all.tests f) (sym same) d in
      let low = of.all t d.0 lt d.1 in
      let small : k < length some.tests = omega (arith, low, le) in (
        k,
        same,
        (
          own.0,
          of.each k small ∙ own.1,
          own.2,
          looks_down p.circuit all.tests some.tests start end f.model f.line f.stuck half k of even
              small (back after) own.3,
        ),
      )
    where
      back : (start ≡ 0) ⊎ (start < t) → (start ≡ 0) ⊎ (0 < t - start)
      back (inl zero) = inl zero
      back (inr less) = inr (omega (arith, less))

  module _ (class : ℕ) (r : Fault)
      (at : slice_get (representatives p.list.model p.circuit) class ≡ Some r)
      (none : NoneFrom (with_tests p all) class end) where
    none_after : (t : ℕ) → end ≤ t → ¬ DetectsAt p.circuit all.tests r t
    none_after t le d =
        let w = which_detect p.list.model p.circuit all.tests class r b.circuit.well_formed at in
        false≢true (sym (none w.0 (r, at, w.1) t le) ∙ (w.1 t).1 d)

    module _ (own : ℕ → Bool) (is : (k : ℕ) → Decides (own k) (DetectsAt p.circuit some.tests r k))
      where
        -- the last hit of the turn is the last test of the class
        last_here : (k : ℕ) → IsLastHit own 0 (64 * blocks (length some.tests)) (Some k)
            → IsLast p.circuit all.tests r (Some (start + k))
        last_here k last = (up r k ((is k).0 last.2), later)
          where
            go : (t : ℕ) → start + k < t → DetectsAt p.circuit all.tests r t
                → (t < end) ⊎ (end ≤ t) → ⊥
            go t after d (inr past) = none_after t past d
            go t after d (inl lt) =
                let x = down r t (omega (arith, after)) lt (inr (omega (arith, after))) d in
                let same : start + x.0 ≡ t = x.1 in
                let low = slice_get_within some.tests x.0 x.2.0 x.2.1 in
                false≢true (sym (last.3 x.0 (omega (arith, after, same)) (omega (arith, low)))
                ∙ (is x.0).1 x.2)

            later : (t : ℕ) → start + k < t → ¬ DetectsAt p.circuit all.tests r t
            later t after d = go t after d (cases_lt t end)

        -- without a hit no test from the end of the next turn on detects the class
        none_here : IsLastHit own 0 (64 * blocks (length some.tests)) None → (next t : ℕ)
            → IsNextEnd start next → next ≤ t → ¬ DetectsAt p.circuit all.tests r t
        none_here last next t follows le d = go (cases_lt t end) follows
          where
            hit : start ≤ t → t < end → (start ≡ 0) ⊎ (start < t) → ⊥
            hit above lt after =
                let x = down r t above lt after d in
                let low = slice_get_within some.tests x.0 x.2.0 x.2.1 in
                false≢true (sym (last x.0 (omega arith) (omega (arith, low))) ∙ (is x.0).1 x.2)

            go : (t < end) ⊎ (end ≤ t) → IsNextEnd start next → ⊥
            go (inr past) e = none_after t past d
            go (inl lt) (inl zero) =
                let first = zero.0 in hit (omega (arith, first)) lt (inl first)
            go (inl lt) (inr after) =
                let is = after.1 in hit (omega (arith, is, le)) lt (inr (omega (arith, is, le)))

  module _ (classes : List ℕ) (found : List (Option ℕ)) (old : List Bool)
      (was : AreLastFrom (with_tests p all) end classes old)
      (are : AreKept (task_of (with_tests p some) 0 (λ _. true) IsLastHit) classes found) where
    -- a class that was open has its last test in the turn, if the turn has one
    last_of : (j k class : ℕ) → slice_get classes j ≡ Some class
        → slice_get found j ≡ Some (Some k)
        → IsLastOfClass (with_tests p all) class (Some (start + k))
    last_of j k class listed e =
        let low = was.within j class listed in
        let r = within_place (representatives p.list.model p.circuit) class
        (omega (arith, low, class_count p b)) in
        let w = which_detect p.list.model p.circuit some.tests class r.0 b.circuit.well_formed r.1
        in (
          r.0,
          r.1,
          last_here class r.0 r.1 (was.none j class listed) w.0 w.1 k
              (are.each w.0 j class (Some k) listed e (r.0, r.1, w.1)),
        )

    -- the tests of the turn have been taken
    pub turn_taken : (left : List ℕ) (new : List Bool)
        → HaveMarked start found (length found) old new
        → AreLeftOpen classes found (length classes) left → (next : ℕ) → IsNextEnd start next
        → AreLastFrom (with_tests p all) next left new
    turn_taken left new marks others next follows = record {
      count = marks.count ∙ was.count;
      some = λ t on. old_or_new t (marks.marked t on);
      few = let f = others.few in let g = was.few in omega (arith, f, g);
      within = λ k class at. let x = others.each k class at in was.within x.0 class x.1;
      none = λ k class at hits h t le.
          let x = others.each k class at in
          off class x.0 x.1 x.2 hits h t le (bit_cases (hits t));
      all = λ class low. each class (was.all class low);
    }
      where
        old_or_new : (t : ℕ) → (get_or old t false ≡ true)
            ⊎ ((j : ℕ) × (k : ℕ) × (slice_get found j ≡ Some (Some k)) × (t ≡ start + k))
            → (class : ℕ) × IsLastOfClass (with_tests p all) class (Some t)
        old_or_new t (inl on) = was.some t on
        old_or_new t (inr x) =
            let within = slice_get_within found x.0 (Some x.1) x.2 in
            let class = within_place classes x.0 (omega (arith, within, are.count)) in (
              class.0,
              subst (λ n. IsLastOfClass (with_tests p all) class.0 (Some n)) (sym x.3)
                  (last_of x.0 x.1 class.0 class.1 x.2),
            )

        off : (class j : ℕ) → slice_get classes j ≡ Some class → slice_get found j ≡ Some None
            → (hits : ℕ → Bool) (h : AreHits (with_tests p all) class hits) (t : ℕ) → next ≤ t
            → (hits t ≡ true) ⊎ (hits t ≡ false) → hits t ≡ false
        off class j listed e hits h t le (inr none) = none
        off class j listed e hits h t le (inl on) =
            let w = which_detect p.list.model p.circuit some.tests class h.0 b.circuit.well_formed
            h.1 in
            absurd (none_here class h.0 h.1 (was.none j class listed) w.0 w.1
            (are.each w.0 j class None listed e (h.0, h.1, w.1)) next t follows le ((h.2 t).0 on))

        found_one : (class j : ℕ) (one : Option ℕ) → slice_get classes j ≡ Some class
            → slice_get found j ≡ Some one
            → ((k : ℕ) × (slice_get left k ≡ Some class))
            ⊎ ((t : ℕ) × IsLastOfClass (with_tests p all) class (Some t)
            × (get_or new t false ≡ true))
        found_one class j None listed e =
            inl (others.all j class (slice_get_within classes j class listed) listed e)
        found_one class j (Some k) listed e =
            let last = last_of j k class listed e in
            let low = slice_get_within all.tests (start + k) last.2.0.0 last.2.0.1 in
            inr (
              start + k,
              last,
              marks.all j k (slice_get_within found j (Some k) e) e
                  (omega (arith, low, was.count)),
            )

        each : (class : ℕ) → ((j : ℕ) × (slice_get classes j ≡ Some class))
            ⊎ ((t : ℕ) × IsLastOfClass (with_tests p all) class (Some t)
            × (get_or old t false ≡ true))
            → ((k : ℕ) × (slice_get left k ≡ Some class))
            ⊎ ((t : ℕ) × IsLastOfClass (with_tests p all) class (Some t)
            × (get_or new t false ≡ true))
        each class (inl x) =
            let low = slice_get_within classes x.0 class x.1 in
            let one = within_place found x.0 (omega (arith, low, are.count)) in
            found_one class x.0 one.0 x.1 one.1
        each class (inr x) = inr (x.0, x.1, marks.kept x.0 x.2)

-- the next turn ends before this one does
pub next_less : (start next end size : ℕ) → 2 ≤ size → (0 < start → start + size ≤ end) → 0 < end
    → IsNextEnd start next → next < end
next_less start next end size some far low (inl e) = let is = e.1 in omega (arith, is, low)
next_less start next end size some far low (inr e) =
    let is = e.1 in
    let room = far e.0 in
    omega (arith, is, room, some)

-- ---- before the first turn and after the last

module _ (p : Parts) (all : TestList) (b : BelongTogether p) where
  -- no test detects a class that comes after the last test
  pub none_past : (class : ℕ) → NoneFrom (with_tests p all) class (length all.tests)
  none_past class hits h t le = go (bit_cases (hits t))
    where
      go : (hits t ≡ true) ⊎ (hits t ≡ false) → hits t ≡ false
      go (inr off) = off
      go (inl on) =
          let d = (h.2 t).0 on in
          let lt = slice_get_within all.tests t d.0 d.1 in
          absurd (omega (arith, lt, le))

  -- no test has been taken: no test is marked, and all classes are open
  pub none_yet : (job : Parts) (classes : List ℕ) (marks : List Bool) → AreAllByRegion job classes
      → job.classes ≡ p.classes → marks ≡ replicate (length all.tests) false
      → AreLastFrom (with_tests p all) (length all.tests) classes marks
  none_yet job classes marks by same is = record {
    count = ap length is ∙ length-replicate (length all.tests) false;
    some = λ t on. absurd (false≢true (sym (off t) ∙ on));
    few = subst (λ (x : Collapsed). length classes ≤ length x.representative) same by.few;
    within = λ k class at. subst (λ (x : Collapsed). class < length x.representative) same
        (by.each k class at).0;
    none = λ k class at. none_past class;
    all = λ class low. inl (by.all class
        (subst (λ (x : Collapsed). class < length x.representative) (sym same) low) tt);
  }
    where
      none : (t : ℕ) → (t < length all.tests) ⊎ (length all.tests ≤ t)
          → get_or (replicate (length all.tests) false) t false ≡ false
      none t (inl low) = get_or-replicate (length all.tests) t false false low
      none t (inr past) = get_or_past (replicate (length all.tests) false) t false
          (omega (arith, past, length-replicate (length all.tests) false))

      off : (t : ℕ) → get_or marks t false ≡ false
      off t = ap (λ xs. get_or xs t false) is ∙ none t (cases_lt t (length all.tests))

  -- the marks are those of the last tests once all tests have been taken, or no class is open
  pub all_taken : (from : ℕ) (classes : List ℕ) (marks : List Bool)
      → AreLastFrom (with_tests p all) from classes marks → (from ≡ 0) ⊎ (length classes ≡ 0)
      → AreLasting p.list.model p.circuit all.tests marks
  all_taken from classes marks are ended = record { count = are.count; last = last; found = found }
    where
      last : (t : ℕ) → slice_get marks t ≡ Some true
          → IsLastForSome p.list.model p.circuit all.tests t
      last t mark =
          let own = are.some t (get_or_from_slice_get marks t true false mark) in
          let of = own.1 in
          (of.0, (own_class p.list.model p.circuit of.0 own.0 of.1).1, of.2.0, of.2.1)

      closed : (class k t : ℕ) (r : Fault) → slice_get classes k ≡ Some class
          → slice_get (representatives p.list.model p.circuit) class ≡ Some r
          → DetectsAt p.circuit all.tests r t → (from ≡ 0) ⊎ (length classes ≡ 0) → ⊥
      closed class k t r at rep d (inl zero) =
          let w = which_detect p.list.model p.circuit all.tests class r b.circuit.well_formed rep
          in
          false≢true (sym (are.none k class at w.0 (r, rep, w.1) t (omega (arith, zero)))
          ∙ (w.1 t).1 d)
      closed class k t r at rep d (inr empty) =
          let low = slice_get_within classes k class at in omega (arith, low, empty)

      found : (f : Fault) (t : ℕ) → Contains (faults p.list.model p.circuit) f
          → DetectsAt p.circuit all.tests f t
          → (s : ℕ) × DetectsAt p.circuit all.tests f s × (slice_get marks s ≡ Some true)
      found f t listed d =
          let of = class_of p f b listed in
          let r = of.1.0 in
          let low = place_within (representatives p.list.model p.circuit) of.0 r of.1.3 in
          go (are.all of.0 (omega (arith, low, class_count p b)))
        where
          go : ((k : ℕ) × (slice_get classes k ≡ Some (class_of p f b listed).0))
              ⊎ ((s : ℕ) × IsLastOfClass (with_tests p all) (class_of p f b listed).0 (Some s)
              × (get_or marks s false ≡ true))
              → (s : ℕ) × DetectsAt p.circuit all.tests f s × (slice_get marks s ≡ Some true)
          go (inl x) =
              let of = class_of p f b listed in
              absurd (closed of.0 x.0 t of.1.0 x.1 of.1.3
              (as_class p f of.0 all.tests t b of.1 d) ended)
          go (inr x) =
              let of = class_of p f b listed in
              let last = x.1 in
              let same : last.0 ≡ of.1.0 =
              ap (λ o. unwrap_or o of.1.0) (sym last.1 ∙ of.1.3) in
              let here = subst (λ g. DetectsAt p.circuit all.tests g x.0) same last.2.0 in
              let low = slice_get_within all.tests x.0 here.0 here.1 in (
                x.0,
                as_fault p f of.0 all.tests x.0 b of.1 here,
                slice_get-get_or marks x.0 false (omega (arith, low, are.count)) ∙ ap Some x.2,
              )
