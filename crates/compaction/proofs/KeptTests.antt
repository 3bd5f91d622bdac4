-- The faults that the kept tests detect, and the reason why each test is kept.
use Rattle.std.proofs.Common.{◌≡◌, ◌<◌, ◌≤◌, ◌+◌, ◌-◌, ◌*◌, ◌∙◌, ℕ, zero, suc, Bool, true, false}
use Rattle.std.proofs.Common.{List, ◌∷◌, [], length, ap, refl, sym, subst, arith, add-one, inl, inr}
use Rattle.std.{proofs.Common.{◌⊎◌, get_or, take}, specs.List.ReversedBelow}
use Rattle.std.specs.Prelude.{◌||◌, Contains, IfOk, Option, Some, None, Result, Ok, Err, slice_get}
use Rattle.std.proofs.lemmas.{Bool.{cases_lt, eqb-true, eq-eqb}, List.get_or_past}
use Rattle.std.proofs.lemmas.List.Folds.{list_any_more}
use Rattle.std.proofs.lemmas.Option.{get_or_from_slice_get, slice_get-get_or, slice_get_within}
use Rattle.bench_net.specs.Statement.{Statement}
use Rattle.list_lemmas.proofs.Members.{Among, among, contained, some_passes}
use Rattle.list_lemmas.proofs.Places.{at_place, place_within, placed, within_place}
use Rattle.fault_model.specs.{declared.Model.Model, Fault.{Fault, faults}, Solution.{Test, Detects}}
use Rattle.fault_model.specs.declared.Model.TheVariants.{StuckAt, Transition, TransitionPairs}
use Rattle.fault_model.{specs.declared.Line.Line, proofs.Public.listed_model}
use Rattle.fault_model.specs.Detection.{DetectsAt, IsInitialized, IsSecondOfPair, LooksBack}
use Rattle.patterns.specs.Least.{below}
use Rattle.block_sim.specs.First.{IsFirst}
use Rattle.workers.specs.Verdict.{AreFirsts}
use Rattle.compaction.specs.Compaction.{AreEarly, Covers, IsFirstForSome, IsFirstOrBefore}
use Rattle.compaction.specs.Compaction.{IsLastForSome, IsLastOrBefore, IsNeeded, IsNumbered}
use Rattle.compaction.specs.Compaction.{PassesTwice, at_marks, finds, is_first, row_of}
use Rattle.compaction.specs.Marks.{AreFinding, AreLast, AreLastOf, AreLastPairsOf, AreLasting}
use Rattle.compaction.{specs.Marks.AreWithBefore, proofs.ElementsAtMarks.ones_next}
use Rattle.compaction.proofs.ElementsAtMarks.{ones_stay, ComesFrom, both_counted, both_inner}
use Rattle.compaction.proofs.ElementsAtMarks.{both_marked, both_marks, comes_from, earlier_place}
use Rattle.compaction.proofs.ElementsAtMarks.{marked_at, marked_twice, ones, ones_counted}
use Rattle.compaction.proofs.ReversedLists.{reversed_back, reversed_to}
pub use Rattle.std.proofs.lemmas.Bool.{or_right, or_left, or_cases}

-- the marked tests detect some fault, and one of them detects each fault that a test detects
pub record AreDetectingMarks (m : Model) (c : List Statement) (tests : List Test)
    (marks : List Bool) : Type 0 where
  pub count : length marks ≡ length tests
  pub some : (t : ℕ) → slice_get marks t ≡ Some true
      → (f : Fault) × Contains (faults m c) f × DetectsAt c tests f t
  pub found : (f : Fault) (t : ℕ) → Contains (faults m c) f → DetectsAt c tests f t
      → (s : ℕ) × DetectsAt c tests f s × (slice_get marks s ≡ Some true)

-- ---- marks by first tests

some_found : (firsts : List (Option ℕ)) (t : ℕ) (x : Option ℕ) → Among x firsts
    → is_first t x ≡ true → finds firsts t ≡ true
some_found [] t x a e = absurd a
some_found (y ∷ firsts) t x (inl same) e = let first : is_first t y ≡ true = ap (is_first t) same
    ∙ e in rw (first) refl
some_found (y ∷ firsts) t x (inr a) e =
    or_true (is_first t y) (finds firsts t) (some_found firsts t x a e)
  where
    or_true : (b d : Bool) → d ≡ true → (b || d) ≡ true
    or_true true d h = refl
    or_true false d h = h

pub own_first : (t : ℕ) (x : Option ℕ) → is_first t x ≡ true → x ≡ Some t
own_first t None e = let bad : false ≡ true = e in cc
own_first t (Some s) e = ap Some (eqb-true s t e)

pub first_own : (t : ℕ) → is_first t (Some t) ≡ true
first_own t = eq-eqb t t refl

-- one fault more
pub finds_more : (firsts : List (Option ℕ)) (t i : ℕ) (first : Option ℕ) → slice_get firsts i
    ≡ Some first → finds (take (i + 1) firsts) t ≡ (finds (take i firsts) t || is_first t first)
finds_more firsts t i first at =
    list_any_more (is_first t) firsts i first (place_within firsts i first at)
    ∙ ap (λ x. finds (take i firsts) t || is_first t x)
    (get_or_from_slice_get firsts i first first at)

pub are_finding : (m : Model) (c : List Statement) (tests : List Test) (marks : List Bool)
    (firsts : List (Option ℕ)) → AreFirsts m c tests firsts → length marks ≡ length tests
    → ((t : ℕ) → t < length tests → get_or marks t false ≡ finds firsts t)
    → AreFinding m c tests marks
are_finding m c tests marks firsts are count each =
    record { count = count; first = first; found = found }
  where
    first : (t : ℕ) → slice_get marks t ≡ Some true → IsFirstForSome m c tests t
    first t e =
        let lt : t < length tests =
        (let h = slice_get_within marks t true e in omega (arith, h, count)) in
        let on : finds firsts t ≡ true = sym (each t lt)
        ∙ get_or_from_slice_get marks t true false e in
        let some = some_passes (is_first t) firsts on in
        let at = placed firsts some.0 (among firsts some.0 some.1) in
        let there : slice_get firsts at.0 ≡ Some (Some t) = at.1
        ∙ ap Some (own_first t some.0 some.2) in
        let fault = within_place (faults m c) at.0 (let h = place_within firsts at.0 some.0 at.1 in
        omega (arith, h, are.count)) in (
          fault.0,
          contained (faults m c) fault.0 (at_place (faults m c) at.0 fault.0 fault.1),
          are.first at.0 fault.0 (Some t) fault.1 there,
        )

    found : (f : Fault) (t : ℕ) → Contains (faults m c) f → DetectsAt c tests f t
        → (s : ℕ) × IsFirst c tests f (Some s) × (slice_get marks s ≡ Some true)
    found f t listed detects =
        let at = placed (faults m c) f (among (faults m c) f listed) in
        let verdict = within_place firsts at.0 (let h = place_within (faults m c) at.0 f at.1 in
        omega (arith, h, are.count)) in
        go verdict.0 (are.first at.0 f verdict.0 at.1 verdict.1)
        (at_place firsts at.0 verdict.0 verdict.1)
      where
        go : (x : Option ℕ) → IsFirst c tests f x → Among x firsts
            → (s : ℕ) × IsFirst c tests f (Some s) × (slice_get marks s ≡ Some true)
        go None is a = absurd (is t detects)
        go (Some s) is a =
            let lt : s < length tests = place_within tests s is.0.0 is.0.1 in
            let on : get_or marks s false ≡ true = each s lt
            ∙ some_found firsts s (Some s) a (first_own s) in
            (s, is, slice_get-get_or marks s false (omega (arith, lt, count)) ∙ ap Some on)

-- ---- stuck-at faults: a row detects by itself

pub stuck_at : (c : List Statement) (rows : List Test) (f : Fault) (k : ℕ) (test : Test) → Contains
    (faults StuckAt c) f → slice_get rows k ≡ Some test → Detects c test f → DetectsAt c rows f k
stuck_at c rows f k test listed at detects =
    let model : f.model ≡ StuckAt = listed_model StuckAt c f listed in
    (test, at, detects, subst (λ m. LooksBack c rows m f.line f.stuck k) (sym model) tt)

pub covers_stuck : (c : List Statement) (tests : List Test) (marks : List Bool)
    → AreFinding StuckAt c tests marks → Covers StuckAt c tests (at_marks marks tests)
covers_stuck c tests marks are f t listed detects =
    let s = are.found f t listed detects in
    let own = s.1.0 in (
      ones (take s.0 marks),
      stuck_at c (at_marks marks tests) f (ones (take s.0 marks)) own.0 listed
          (marked_at marks tests s.0 own.0 s.2 own.1) own.2,
    )

-- the second pass: a test is the last of some faults in a list if it is the first of them in the
-- reversed list
pub are_last : (c : List Statement) (tests reversed : List Test) (found marks : List Bool)
    → length reversed ≡ length tests → ReversedBelow tests reversed (length tests)
    → AreFinding StuckAt c reversed found
    → length marks ≡ length tests → ReversedBelow found marks (length tests)
    → (given numbers : List ℕ) → numbers ≡ at_marks marks given
    → AreLastOf c tests (at_marks marks tests) given numbers
are_last c tests reversed found marks count round are marked_all back given numbers e =
    (record { rows = (marks, marked_all, refl); covers = covers; last = last }, e)
  where
    all_found : length found ≡ length tests
    all_found = are.count ∙ count

    covers : Covers StuckAt c tests (at_marks marks tests)
    covers f t listed detects =
        let there = stuck_at c reversed f (length tests - 1 - t) detects.0 listed (reversed_to tests
        reversed (length tests) t detects.0 refl count round detects.1) detects.2 in
        let s = are.found f (length tests - 1 - t) listed there in
        let own = s.1.0 in
        let place = length tests - 1 - s.0 in
        let at : slice_get tests place ≡ Some own.0 =
        reversed_back tests reversed (length tests) s.0 own.0 refl count round own.1 in
        let mark : slice_get marks place ≡ Some true =
        reversed_to found marks (length tests) s.0 true all_found marked_all back s.2 in (
          ones (take place marks),
          stuck_at c (at_marks marks tests) f (ones
              (take place marks)) own.0 listed (marked_at marks tests place own.0 mark at) own.2,
        )

    last : (k : ℕ) (row : Test) → slice_get (at_marks marks tests) k ≡ Some row
        → IsLastForSome StuckAt c (at_marks marks tests) k
    last k row e = (
      f,
      listed,
      stuck_at c (at_marks marks tests) f k row listed e
          (subst (λ test. Detects c test f) same is.0.2),
      later,
    )
      where
        from : ComesFrom marks tests k row
        from = comes_from marks tests k row e

        first : IsFirstForSome StuckAt c reversed (length tests - 1 - from.place)
        first = are.first (length tests - 1 - from.place) (reversed_back found marks
            (length tests) from.place true all_found marked_all back from.mark)

        f : Fault
        f = first.0

        listed : Contains (faults StuckAt c) f
        listed = first.1

        is : IsFirst c reversed f (Some (length tests - 1 - from.place))
        is = first.2

        same : is.0.0 ≡ row
        same =
            let own : Some is.0.0 ≡ Some row = sym is.0.1
            ∙ reversed_to tests reversed (length tests) from.place row refl count round from.at in
            cc

        later : (after : ℕ) → k < after → ¬ DetectsAt c (at_marks marks tests) f after
        later after lt detects =
            let other = comes_from marks tests after detects.0 detects.1 in
            let behind : from.place < other.place =
            earlier_place marks from.place other.place k after from.before other.before lt in
            let within : other.place < length tests =
            place_within tests other.place detects.0 other.at in
            let place = length tests - 1 - other.place in
            is.1 place (omega (arith, behind, within))
            (stuck_at c reversed f place detects.0 listed (reversed_to tests reversed
            (length tests) other.place detects.0 refl count round other.at) detects.2)

pub numbered_stuck : (c : List Statement) (tests kept : List Test) (marks : List Bool)
    (given numbers : List ℕ) → AreFinding StuckAt c tests marks
    → given ≡ at_marks marks (below (length tests))
    → AreLastOf c (at_marks marks tests) kept given numbers
    → IsNumbered StuckAt c tests kept numbers
numbered_stuck c tests kept marks given numbers are numbered last_of = (
  record { marks = both; count = all; rows = rows; covers = covers; needed = needed },
  last_of.1 ∙ (ap (at_marks last_are.rows.0) numbered
      ∙ marked_twice marks last_are.rows.0 (below (length tests))),
)
  where
    last_are : AreLast c (at_marks marks tests) kept
    last_are = last_of.0

    both : List Bool
    both = both_marks marks last_are.rows.0

    all : length both ≡ length tests
    all = both_counted marks last_are.rows.0 ∙ are.count

    rows : kept ≡ at_marks both tests
    rows = last_are.rows.2 ∙ marked_twice marks last_are.rows.0 tests

    covers : Covers StuckAt c tests kept
    covers f t listed detects = let h = covers_stuck c tests marks are f t listed detects in
        last_are.covers f h.0 listed h.1

    needed : (t : ℕ) → slice_get both t ≡ Some true
        → IsNeeded StuckAt c tests kept t (row_of both t)
    needed t mark =
        let low = slice_get_within both t true mark in
        let own = within_place tests t (omega (arith, low, all)) in
        let at : slice_get (at_marks both tests) (row_of both t) ≡ Some own.0 =
        subst (λ k. slice_get (at_marks both tests) k ≡ Some own.0)
        (sym (ones_counted (take t both))) (marked_at both tests t own.0 mark own.1) in (
          are.first t (both_marked marks last_are.rows.0 t mark),
          last_are.last (row_of both t) own.0
              (subst (λ rows. slice_get rows (row_of both t) ≡ Some own.0) (sym rows) at),
        )

-- ---- transition faults: with each test the one before it

on_where : (found marks : List Bool) → AreWithBefore found marks → (t : ℕ) → t < length found
    → (get_or found t false || get_or found (t + 1) false) ≡ true → slice_get marks t ≡ Some true
on_where found marks are t lt e = slice_get-get_or marks t false (omega (arith, lt, are.count))
    ∙ ap Some (are.each t lt ∙ e)

itself : (found marks : List Bool) → AreWithBefore found marks → (t : ℕ)
    → slice_get found t ≡ Some true → slice_get marks t ≡ Some true
itself found marks are t e =
    on_where found marks are t (slice_get_within found t true e) (or_left (get_or found t false)
    (get_or found (t + 1) false) (get_or_from_slice_get found t true false e))

the_one_before : (found marks : List Bool) → AreWithBefore found marks → (t : ℕ)
    → slice_get found (suc t) ≡ Some true → slice_get marks t ≡ Some true
the_one_before found marks are t e =
    let lt = slice_get_within found (suc t) true e in
    on_where found marks are t (omega (arith, lt)) (or_right (get_or found t false)
    (get_or found (t + 1) false) (ap (λ i. get_or found i false) (add-one t)
    ∙ get_or_from_slice_get found (suc t) true false e))

-- a fault that a test of the list initializes is initialized by the same row
initialized_same : (c : List Statement) (tests : List Test) (marks : List Bool) (i : ℕ)
    (l : Line) (b : Bool) → slice_get marks i ≡ Some true → IsInitialized c tests l b (suc i)
    → IsInitialized c (at_marks marks tests) l b (suc (ones (take i marks)))
initialized_same c tests marks i l b on looks =
    (looks.0, marked_at marks tests i looks.0 on looks.1, looks.2)

mark_at_place : (found : List Bool) (t : ℕ) → get_or found t false ≡ true
    → slice_get found t ≡ Some true
mark_at_place found t h = go (cases_lt t (length found))
  where
    go : (t < length found) ⊎ (length found ≤ t) → slice_get found t ≡ Some true
    go (inl low) = slice_get-get_or found t false low ∙ ap Some h
    go (inr past) = let bad : false ≡ true = sym (get_or_past found t false past) ∙ h in cc

-- A model under which a test looks back to the one before it, and finds it in the rows too.
pub record LooksBackSame (m : Model) (c : List Statement) (tests : List Test)
    (found marks : List Bool) : Type 0 where
  pub not_first : (l : Line) (b : Bool) → LooksBack c tests m l b zero → ⊥
  pub same : (i : ℕ) (l : Line) (b : Bool) → slice_get found (suc i) ≡ Some true
      → LooksBack c tests m l b (suc i)
      → LooksBack c (at_marks marks tests) m l b (suc (ones (take i marks)))

-- the rows detect the faults that the tests detect
covers_before : (m : Model) (c : List Statement) (tests : List Test) (found marks : List Bool)
    → AreDetectingMarks m c tests found → AreWithBefore found marks
    → LooksBackSame m c tests found marks → Covers m c tests (at_marks marks tests)
covers_before m c tests found marks are before looks_back = covers
  where
    kept_pair : (s : ℕ) (f : Fault) → Contains (faults m c) f → slice_get found s ≡ Some true
        → DetectsAt c tests f s → (k : ℕ) × DetectsAt c (at_marks marks tests) f k
    kept_pair s f listed mark detects =
        go s mark detects.1 (subst (λ x. LooksBack c tests x f.line f.stuck s) model detects.3)
      where
        model : f.model ≡ m
        model = listed_model m c f listed

        go : (i : ℕ) → slice_get found i ≡ Some true → slice_get tests i ≡ Some detects.0
            → LooksBack c tests m f.line f.stuck i
            → (k : ℕ) × DetectsAt c (at_marks marks tests) f k
        go zero on at looks = absurd (looks_back.not_first f.line f.stuck looks)
        go (suc i) on at looks =
            let k = ones (take i marks) in
            let next : ones (take (suc i) marks) ≡ suc k =
            ones_next marks i (the_one_before found marks before i on) in
            let own : slice_get (at_marks marks tests) (suc k) ≡ Some detects.0 = subst
            (λ j. slice_get (at_marks marks tests) j ≡ Some detects.0) next (marked_at marks tests
            (suc i) detects.0 (itself found marks before (suc i) on) at) in
            let back : LooksBack c (at_marks marks tests) m f.line f.stuck (suc k) =
            looks_back.same i f.line f.stuck on looks in (
              suc k,
              (
                detects.0,
                own,
                detects.2,
                subst (λ x. LooksBack c (at_marks marks tests) x f.line f.stuck (suc k))
                    (sym model) back,
              ),
            )

    covers : Covers m c tests (at_marks marks tests)
    covers f t listed detects = let s = are.found f t listed detects in
        kept_pair s.0 f listed s.2 s.1

-- a marked test or the next is one that finds something
found_or_next : (found marks : List Bool) → AreWithBefore found marks → (t : ℕ)
    → slice_get marks t ≡ Some true
    → (slice_get found t ≡ Some true) ⊎ (slice_get found (t + 1) ≡ Some true)
found_or_next found marks before t mark = go (or_cases (get_or found t false)
    (get_or found (t + 1) false) (sym (before.each t lt)
    ∙ get_or_from_slice_get marks t true false mark))
  where
    lt : t < length found
    lt = let h = slice_get_within marks t true mark in omega (arith, h, before.count)

    go : (get_or found t false ≡ true) ⊎ (get_or found (t + 1) false ≡ true)
        → (slice_get found t ≡ Some true) ⊎ (slice_get found (t + 1) ≡ Some true)
    go (inl h) = inl (mark_at_place found t h)
    go (inr h) = inr (mark_at_place found (t + 1) h)

-- the first test of a fault is marked
first_is_marked : (m : Model) (c : List Statement) (tests : List Test) (found : List Bool) (t : ℕ)
    → AreFinding m c tests found → IsFirstForSome m c tests t → slice_get found t ≡ Some true
first_is_marked m c tests found t are first = go (cases_lt t s.0) (cases_lt s.0 t)
  where
    s : (s : ℕ) × IsFirst c tests first.0 (Some s) × (slice_get found s ≡ Some true)
    s = are.found first.0 t first.1 first.2.0

    go : (t < s.0) ⊎ (s.0 ≤ t) → (s.0 < t) ⊎ (t ≤ s.0) → slice_get found t ≡ Some true
    go (inl early) other = absurd (s.1.1 t early first.2.0)
    go (inr le) (inl late) = absurd (first.2.1 s.0 late s.1.0)
    go (inr le) (inr ge) =
        let same : s.0 ≡ t = omega (arith, le, ge) in
        subst (λ k. slice_get found k ≡ Some true) same s.2

-- the marks of the first pass are the marks of the definition
early_marks : (m : Model) (c : List Statement) (tests : List Test) (found marks : List Bool)
    → AreFinding m c tests found → AreWithBefore found marks → AreEarly m c tests marks
early_marks m c tests found marks are before = (
  before.count ∙ are.count,
  λ t. (λ mark. there t (found_or_next found marks before t mark), λ first. back t first),
)
  where
    there : (t : ℕ) → (slice_get found t ≡ Some true) ⊎ (slice_get found (t + 1) ≡ Some true)
        → IsFirstOrBefore m c tests t
    there t (inl h) = inl (are.first t h)
    there t (inr h) = inr (are.first (t + 1) h)

    back : (t : ℕ) → IsFirstOrBefore m c tests t → slice_get marks t ≡ Some true
    back t (inl first) = itself found marks before t (first_is_marked m c tests found t are first)
    back t (inr first) =
        the_one_before found marks before t (subst (λ k. slice_get found k ≡ Some true) (add-one t)
        (first_is_marked m c tests found (t + 1) are first))

-- which tests find something, in both passes
finding_detects : (m : Model) (c : List Statement) (tests : List Test) (found : List Bool)
    → AreFinding m c tests found → AreDetectingMarks m c tests found
finding_detects m c tests found are = record {
  count = are.count;
  some = λ t mark. let first = are.first t mark in (first.0, first.1, first.2.0);
  found = λ f t listed d. let s = are.found f t listed d in (s.0, s.1.0, s.2);
}

lasting_detects : (m : Model) (c : List Statement) (tests : List Test) (last : List Bool)
    → AreLasting m c tests last → AreDetectingMarks m c tests last
lasting_detects m c tests last are = record {
  count = are.count;
  some = λ t mark. let own = are.last t mark in (own.0, own.1, own.2);
  found = are.found;
}

-- ---- transition faults of a list in which each test but the first is the second of a pair

looks_back_transition : (c : List Statement) (tests : List Test) (found marks : List Bool)
    → AreWithBefore found marks → LooksBackSame Transition c tests found marks
looks_back_transition c tests found marks before = record {
  not_first = λ l b looks. looks;
  same = λ i l b on looks.
      initialized_same c tests marks i l b (the_one_before found marks before i on) looks;
}

-- ---- transition faults of a list of pairs: a pair is kept whole, so it is a pair of the rows

or_false : (b : Bool) → (b || false) ≡ b
or_false true = refl
or_false false = refl

-- the first test of a pair finds nothing
first_finds_none : (c : List Statement) (tests : List Test) (found : List Bool)
    → AreDetectingMarks TransitionPairs c tests found → (q : ℕ) → get_or found (2 * q) false ≡ false
first_finds_none c tests found are q = go (get_or found (2 * q) false) refl
  where
    go : (b : Bool) → get_or found (2 * q) false ≡ b → get_or found (2 * q) false ≡ false
    go false e = e
    go true e = absurd (not_second (second (are.some (2 * q) (mark_at_place found (2 * q) e))))
      where
        second : (f : Fault) × Contains (faults TransitionPairs c) f × DetectsAt c tests f (2 * q)
            → IsSecondOfPair (2 * q)
        second some =
            let looks : LooksBack c tests TransitionPairs some.0.line some.0.stuck (2 * q) =
            subst (λ x. LooksBack c tests x some.0.line some.0.stuck (2 * q))
            (listed_model TransitionPairs c some.0 some.1) some.2.3 in
            looks.0

        not_second : IsSecondOfPair (2 * q) → ⊥
        not_second pair = let e = pair.1 in omega (arith, e)

-- both tests of a pair are marked, or none is
marked_alike : (c : List Statement) (tests : List Test) (found marks : List Bool)
    → AreDetectingMarks TransitionPairs c tests found → AreWithBefore found marks → (q : ℕ)
    → 2 * q + 1 < length found → get_or marks (2 * q) false ≡ get_or marks (2 * q + 1) false
marked_alike c tests found marks are before q lt =
    let x = get_or found (2 * q + 1) false in
    let first : get_or marks (2 * q) false ≡ x = before.each (2 * q) (omega (arith, lt))
    ∙ ap (λ b. b || x) (first_finds_none c tests found are q) in
    let two : 2 * (q + 1) ≡ 2 * q + 1 + 1 = omega arith in
    let next : get_or found (2 * q + 1 + 1) false ≡ false = subst
    (λ n. get_or found n false ≡ false) two (first_finds_none c tests found are (q + 1)) in
    let second : get_or marks (2 * q + 1) false ≡ x = before.each (2 * q + 1) lt
    ∙ (ap (λ b. x || b) next ∙ or_false x) in
    first ∙ sym second

-- so before a pair an even number of tests is marked
even_before : (marks : List Bool) (p : ℕ) → 2 * p ≤ length marks
    → ((q : ℕ) → q < p → get_or marks (2 * q) false ≡ get_or marks (2 * q + 1) false)
    → (n : ℕ) × (ones (take (2 * p) marks) ≡ 2 * n)
even_before marks zero le alike = (0, refl)
even_before marks (suc p) le alike = go (even_before marks p (omega (arith, le))
    (λ q lt. alike q (omega (arith, lt)))) (get_or marks (2 * p) false) refl
  where
    twice : (n : ℕ) → ones (take (suc (suc (2 * p))) marks) ≡ 2 * n
        → (n : ℕ) × (ones (take (2 * suc p) marks) ≡ 2 * n)
    twice n e = (
      n,
      let two : suc (suc (2 * p)) ≡ 2 * suc p = omega arith in
          subst (λ i. ones (take i marks) ≡ 2 * n) two e,
    )

    there : (b : Bool) → get_or marks (2 * p) false ≡ b → get_or marks (suc (2 * p)) false ≡ b
    there b e = ap (λ i. get_or marks i false) (sym (add-one (2 * p)))
        ∙ (sym (alike p (omega arith)) ∙ e)

    go : (n : ℕ) × (ones (take (2 * p) marks) ≡ 2 * n) → (b : Bool) → get_or marks (2 * p) false ≡ b
        → (n : ℕ) × (ones (take (2 * suc p) marks) ≡ 2 * n)
    go earlier true e =
        let first : ones (take (suc (2 * p)) marks) ≡ suc (ones (take (2 * p) marks)) =
        ones_next marks (2 * p) (mark_at_place marks (2 * p) e) in
        let second : ones (take (suc (suc (2 * p))) marks) ≡ suc (ones (take (suc (2 * p)) marks)) =
        ones_next marks (suc (2 * p)) (mark_at_place marks (suc (2 * p)) (there true e)) in
        twice (suc earlier.0) (let h = earlier.1 in omega (arith, first, second, h))
    go earlier false e =
        let first : ones (take (suc (2 * p)) marks) ≡ ones (take (2 * p) marks) =
        ones_stay marks (2 * p) e in
        let second : ones (take (suc (suc (2 * p))) marks) ≡ ones (take (suc (2 * p)) marks) =
        ones_stay marks (suc (2 * p)) (there false e) in
        twice earlier.0 (second ∙ (first ∙ earlier.1))

looks_back_pairs : (c : List Statement) (tests : List Test) (found marks : List Bool)
    → AreDetectingMarks TransitionPairs c tests found → AreWithBefore found marks
    → LooksBackSame TransitionPairs c tests found marks
looks_back_pairs c tests found marks are before = record {
  not_first = λ l b looks. looks.1;
  same = λ i l b on looks. (
    second i on looks.0,
    initialized_same c tests marks i l b (the_one_before found marks before i on) looks.1,
  );
}
  where
    second : (i : ℕ) → slice_get found (suc i) ≡ Some true → IsSecondOfPair (suc i)
        → IsSecondOfPair (suc (ones (take i marks)))
    second i on pair = (even.0, let e = even.1 in omega (arith, e))
      where
        lt : suc i < length found
        lt = slice_get_within found (suc i) true on

        is : i ≡ 2 * pair.0
        is = let e = pair.1 in omega (arith, e)

        alike : (q : ℕ) → q < pair.0 → get_or marks (2 * q) false ≡ get_or marks (2 * q + 1) false
        alike q low = marked_alike c tests found marks are before q (omega (arith, low, is, lt))

        even : (n : ℕ) × (ones (take i marks) ≡ 2 * n)
        even = subst (λ x. (n : ℕ) × (ones (take x marks) ≡ 2 * n)) (sym is)
            (even_before marks pair.0 (omega (arith, is, lt, before.count)) alike)

-- ---- by the model of the job

pub stuck_numbered : (m : Model) (c : List Statement) (tests rows kept : List Test)
    (marks : List Bool) (given numbers : List ℕ) → m ≡ StuckAt → AreFinding m c tests marks
    → rows ≡ at_marks marks tests → given ≡ at_marks marks (below (length tests))
    → AreLastOf c rows kept given numbers → IsNumbered m c tests kept numbers
stuck_numbered m c tests rows kept marks given numbers model are is numbered last =
    subst (λ x. IsNumbered x c tests kept numbers) (sym model)
    (numbered_stuck c tests kept marks given numbers
    (subst (λ x. AreFinding x c tests marks) model are) numbered
    (subst (λ xs. AreLastOf c xs kept given numbers) is last))

-- both models under which a test looks back to the one before it
covers_pass : (m : Model) (c : List Statement) (tests : List Test) (found marks : List Bool)
    → (m ≡ Transition) ⊎ (m ≡ TransitionPairs) → AreDetectingMarks m c tests found
    → AreWithBefore found marks → Covers m c tests (at_marks marks tests)
covers_pass m c tests found marks either are before =
    covers_before m c tests found marks are before (go either)
  where
    go : (m ≡ Transition) ⊎ (m ≡ TransitionPairs) → LooksBackSame m c tests found marks
    go (inl e) = subst (λ y. LooksBackSame y c tests found marks) (sym e)
        (looks_back_transition c tests found marks before)
    go (inr e) = subst (λ y. LooksBackSame y c tests found marks) (sym e) (looks_back_pairs c tests
        found marks (subst (λ y. AreDetectingMarks y c tests found) e are) before)

-- why a test passes twice
twice_needed : (m : Model) (c : List Statement) (tests kept : List Test) (t k : ℕ)
    → (m ≡ Transition) ⊎ (m ≡ TransitionPairs) → PassesTwice m c tests t
    → IsNeeded m c tests kept t k
twice_needed m c tests kept t k (inl e) twice = subst (λ x. IsNeeded x c tests kept t k) (sym e)
    (subst (λ x. PassesTwice x c tests t) e twice)
twice_needed m c tests kept t k (inr e) twice = subst (λ x. IsNeeded x c tests kept t k) (sym e)
    (subst (λ x. PassesTwice x c tests t) e twice)

pub pairs_numbered : (m : Model) (c : List Statement) (tests rows kept : List Test)
    (found marks : List Bool) (given numbers : List ℕ)
    → (m ≡ Transition) ⊎ (m ≡ TransitionPairs) → AreFinding m c tests found
    → AreWithBefore found marks → rows ≡ at_marks marks tests
    → given ≡ at_marks marks (below (length tests))
    → AreLastPairsOf m c rows kept given numbers → IsNumbered m c tests kept numbers
pairs_numbered m c tests rows kept found marks given numbers either are before is nums pairs = (
  record {
    marks = both;
    count = both_counted marks inner ∙ (before.count ∙ are.count);
    rows = pairs.4 ∙ (ap (at_marks inner) is ∙ marked_twice marks inner tests);
    covers = covers;
    needed = needed;
  },
  pairs.5 ∙ (ap (at_marks inner) nums ∙ marked_twice marks inner (below (length tests))),
)
  where
    last : List Bool
    last = pairs.0

    inner : List Bool
    inner = pairs.1

    both : List Bool
    both = both_marks marks inner

    covers : Covers m c tests kept
    covers f t listed d =
        let early = covers_pass m c tests found marks either
        (finding_detects m c tests found are) before f t listed d in
        let late = covers_pass m c rows last inner either
        (lasting_detects m c rows last pairs.2) pairs.3 f early.0 listed
        (subst (λ xs. DetectsAt c xs f early.0) (sym is) early.1) in
        subst (λ xs. (k : ℕ) × DetectsAt c xs f k) (sym pairs.4) late

    needed : (t : ℕ) → slice_get both t ≡ Some true → IsNeeded m c tests kept t (row_of both t)
    needed t mark =
        let early = both_marked marks inner t mark in
        let row : slice_get inner (row_of marks t) ≡ Some true =
        subst (λ k. slice_get inner k ≡ Some true) (sym (ones_counted (take t marks)))
        (both_inner marks inner t mark) in
        twice_needed m c tests kept t (row_of both t) either (
          marks,
          early_marks m c tests found marks are before,
          early,
          subst (λ xs. IsLastOrBefore m c xs (row_of marks t)) is
              (go (row_of marks t) (found_or_next last inner pairs.3 (row_of marks t) row)),
        )
      where
        go : (j : ℕ) → (slice_get last j ≡ Some true) ⊎ (slice_get last (j + 1) ≡ Some true)
            → IsLastOrBefore m c rows j
        go j (inl h) = inl (pairs.2.last j h)
        go j (inr h) = inr (pairs.2.last (j + 1) h)

-- a result of one kind is a result of another
pub ok_as : {T E : Type 0} (A B : T → Type 0) (r : Result T E) → ((x : T) → A x → B x) → IfOk r A
    → IfOk r B
ok_as A B (Ok x) into h = into x h
ok_as A B (Err e) into h = h
