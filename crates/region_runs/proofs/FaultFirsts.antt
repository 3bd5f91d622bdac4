-- The first tests of faults by the positions of their classes.
use Rattle.std.proofs.Common.{◌≡◌, ◌<◌, ◌≤◌, ◌+◌, ◌*◌, ℕ, zero, suc, List, [], ◌∷◌, ◌++◌, map, take}
use Rattle.std.proofs.Common.{length, get_or, Option, Some, None, refl, sym, ap, ◌∙◌, subst, arith}
use Rattle.std.{proofs.Common.{add-one, append_assoc, length-append}, specs.Prelude.slice_get}
use Rattle.std.proofs.{lemmas.List.{length-map, take_all}, Math.Nat.suc-mul}
use Rattle.std.proofs.lemmas.List.Sums.{sum_by-cons}
use Rattle.std.proofs.lemmas.Option.{get_or_from_slice_get, slice_get-get_or, slice_get_within}
use Rattle.list_lemmas.proofs.Places.{from_mapped}
use Rattle.fault_model.specs.{Fault.Fault, Collapse.IsClassOf}
use Rattle.patterns.specs.Tests.{blocks}
use Rattle.block_sim.specs.{First.IsFirst, Parts.{Parts, BelongTogether}}
use Rattle.workers.specs.{Settling.shape_for, Verdict.pieces_after}
use Rattle.workers.specs.Verdict.{AreAfterHits, AreClassFirsts, AreFirsts, blocks_after}
use Rattle.workers.proofs.Public.{class_in, take_more}
use Rattle.region_runs.specs.FaultFirsts.{AreFirstsFrom, ServesFaults, first_at, firsts_of_faults}
use Rattle.region_runs.proofs.{PartsOfClasses.behind_within, SumsInOrder.sum_in_order}
use Rattle.counting_sort.specs.SortedPlaces.{ArePositions}

-- ---- shares of faults

-- one fault more
pub follow_more : (class_of positions : List ℕ) (firsts : List (Option ℕ)) (start fault class : ℕ)
    (found : List (Option ℕ)) → start + length found ≡ fault
    → map (first_at positions firsts) (take start class_of) ++ found
    ≡ map (first_at positions firsts) (take fault class_of) → slice_get class_of fault ≡ Some class
    → map (first_at positions firsts) (take start class_of)
    ++ (found ++ first_at positions firsts class ∷ [])
    ≡ map (first_at positions firsts) (take (fault + 1) class_of)
follow_more class_of positions firsts start fault class found long was at =
    let g = first_at positions firsts in
    let before = map g (take start class_of) in
    sym (append_assoc before found (g class ∷ [])) ∙ ap (λ l. l ++ g class ∷ []) was
    ∙ take_more g class_of fault class at ∙ ap (λ n. map g (take n class_of)) (sym (add-one fault))

-- two adjacent shares
pub firsts_append : (class_of positions : List ℕ) (firsts before more : List (Option ℕ)) (start : ℕ)
    → AreFirstsFrom class_of positions firsts 0 before → start ≡ length before
    → AreFirstsFrom class_of positions firsts start more
    → AreFirstsFrom class_of positions firsts 0 (before ++ more)
firsts_append class_of positions firsts before more start left is right = record {
  within = omega (arith, length-append before more, right.within, is);
  follow =
      let g = first_at positions firsts in
      let known : before ≡ map g (take start class_of) =
      left.follow ∙ ap (λ n. map g (take n class_of)) (let e : 0 + length before ≡ start =
      omega (arith, is) in e) in
      let long : start + length more ≡ 0 + length (before ++ more) =
      omega (arith, length-append before more, is) in
      ap (λ l. l ++ more) known ∙ right.follow ∙ ap (λ n. map g (take n class_of)) long;
}

-- the share of all faults
pub firsts_whole : (job : Parts) (positions : List ℕ) (firsts found : List (Option ℕ))
    → AreFirstsFrom job.classes.class_of positions firsts 0 found
    → length found ≡ length job.classes.class_of → found ≡ firsts_of_faults job positions firsts
firsts_whole job positions firsts found are long = are.follow ∙ ap (map (first_at positions firsts))
    (take_all (0 + length found) job.classes.class_of (omega (arith, long)))

-- the class of a fault has a position, and that a first test
pub class_served : (job : Parts) (positions : List ℕ) (firsts : List (Option ℕ))
    → ServesFaults job positions firsts → (fault class : ℕ)
    → slice_get job.classes.class_of fault ≡ Some class
    → (class < length positions) × (get_or positions class 0 < length firsts)
class_served job positions firsts serves fault class at =
    let class_of = job.classes.class_of in
    let low = serves.classes fault 0 (slice_get_within class_of fault class at) in
    let lt = subst (λ x. x < length positions) (get_or_from_slice_get class_of fault class 0 at)
    low in
    (lt, serves.positions_within class 0 lt)

-- ---- verdicts

-- the first tests of all classes, by their own numbers
abbrev firsts_of_classes : List ℕ → List (Option ℕ) → List (Option ℕ)
firsts_of_classes positions firsts = map (λ position. get_or firsts position None) positions

first_there : (firsts : List (Option ℕ)) (positions : List ℕ) (i : ℕ) → i < length positions
    → get_or (firsts_of_classes positions firsts) i None ≡ get_or firsts (get_or positions i 0) None
first_there firsts [] i lt = absurd (omega (arith, lt))
first_there firsts (p ∷ ps) zero lt = refl
first_there firsts (p ∷ ps) (suc i) lt = first_there firsts ps i (omega (arith, lt))

module _ (job : Parts) (classes positions : List ℕ) (firsts : List (Option ℕ))
    (b : BelongTogether job) (stand : ArePositions classes positions)
    (count : length positions ≡ length job.classes.representative)
    (known : AreClassFirsts job.list.model job.circuit job.tests.tests classes firsts) where
  -- the class stands at its position, with its first test
  at_position : (class : ℕ) → class < length positions
      → (slice_get classes (get_or positions class 0) ≡ Some class)
      × (slice_get firsts (get_or positions class 0) ≡ Some (first_at positions firsts class))
  at_position class lt =
      let k = get_or positions class 0 in
      let there = stand.each class lt in
      let low = slice_get_within classes k class there in
      (there, slice_get-get_or firsts k None (omega (arith, low, known.count)))

  class_low : (i class : ℕ) → slice_get job.classes.class_of i ≡ Some class
      → class < length positions
  class_low i class at =
      let lt = class_in job (shape_for job 1) i class b
      (record { classes = refl; tests = refl }) at in
      subst (λ n. class < n) (sym count) lt

  pub serves_faults : ServesFaults job positions firsts
  serves_faults = record {
    classes = λ i d lt. class_low i (get_or job.classes.class_of i d)
        (slice_get-get_or job.classes.class_of i d lt);
    positions_within = λ class d lt.
        let here = at_position class lt in
        let low = slice_get_within firsts (get_or positions class 0)
        (first_at positions firsts class) here.1 in
        let same : get_or positions class d ≡ get_or positions class 0 =
        get_or_from_slice_get positions class (get_or positions class 0) d
        (slice_get-get_or positions class 0 lt) in
        omega (arith, low, same);
  }

  class_first : (class : ℕ) (f : Fault) → class < length positions
      → IsClassOf job.list.model job.circuit f class
      → IsFirst job.circuit job.tests.tests f (first_at positions firsts class)
  class_first class f lt of =
      let here = at_position class lt in
      known.first (get_or positions class 0) class f (first_at positions firsts class) here.0 of
      here.1

  pub faults_first : (found : List (Option ℕ)) → found ≡ firsts_of_faults job positions firsts
      → AreFirsts job.list.model job.circuit job.tests.tests found
  faults_first found is = record {
    count = ap (λ (l : List (Option ℕ)). length l) is
        ∙ length-map job.classes.class_of (first_at positions firsts) ∙ b.classes.count;
    first = λ i f first at v.
        let x = from_mapped (first_at positions firsts) job.classes.class_of i first
        (ap (λ (l : List (Option ℕ)). slice_get l i) (sym is) ∙ v) in
        subst (IsFirst job.circuit job.tests.tests f) x.2
        (class_first x.0 f (class_low i x.0 x.1) (b.classes.class i f x.0 at x.1));
  }

  -- each verdict is the first test of some class of the list
  pub verdict_found : (found : List (Option ℕ)) → found ≡ firsts_of_faults job positions firsts
      → (i class : ℕ) (first : Option ℕ) → slice_get job.classes.class_of i ≡ Some class
      → slice_get found i ≡ Some first
      → (k : ℕ) × (slice_get classes k ≡ Some class) × (slice_get firsts k ≡ Some first)
  verdict_found found is i class first at v =
      let x = from_mapped (first_at positions firsts) job.classes.class_of i first
      (ap (λ (l : List (Option ℕ)). slice_get l i) (sym is) ∙ v) in
      let both : Some x.0 ≡ Some class = sym x.1 ∙ at in
      let one : x.0 ≡ class = cc in
      let here = at_position class (class_low i class at) in
      let own : first_at positions firsts class ≡ first =
      ap (first_at positions firsts) (sym one) ∙ x.2 in
      (get_or positions class 0, here.0, here.1 ∙ ap Some own)

  -- the first tests of all classes by their own numbers have the sum of those in the order
  abbrev by_class : List (Option ℕ)
  by_class = firsts_of_classes positions firsts

  same_sum : (n : ℕ) → pieces_after n by_class ≡ pieces_after n firsts
  same_sum n = sum_in_order (blocks_after n) None refl firsts by_class (λ k. get_or classes k 0)
      (λ class. get_or positions class 0) (omega (arith, long, stand.count, known.count))
      (λ k lt. let x = stand.back k (omega (arith, lt, known.count)) in omega (arith, x.0, long))
      (λ k lt. (stand.back k (omega (arith, lt, known.count))).1) (λ class lt.
      let there = stand.each class (omega (arith, lt, long)) in
      let low = slice_get_within classes (get_or positions class 0) class there in (
        omega (arith, low, known.count),
        get_or_from_slice_get classes (get_or positions class 0) class 0 there,
      )) (λ class lt. first_there firsts positions class (omega (arith, lt, long)))
    where
      long : length by_class ≡ length positions
      long = length-map positions (λ position. get_or firsts position None)

  pub hits_passed : (n skipped : ℕ) → n ≡ blocks (length job.tests.tests)
      → skipped ≡ pieces_after n firsts → AreAfterHits job skipped
  hits_passed n skipped same is = record {
    firsts = by_class;
    count = length-map positions (λ position. get_or firsts position None) ∙ count;
    first = λ class f first of at.
        let x = from_mapped (λ position. get_or firsts position None) positions class first at in
        let lt = slice_get_within positions class x.0 x.1 in
        let own : get_or positions class 0 ≡ x.0 =
        get_or_from_slice_get positions class x.0 0 x.1 in
        subst (IsFirst job.circuit job.tests.tests f)
        (ap (λ k. get_or firsts k None) own ∙ x.2) (class_first class f lt of);
    number = is ∙ sym (same_sum n) ∙ ap (λ k. pieces_after k by_class) same;
  }

-- ---- the sum of skipped pieces

-- the classes before one leave room for its own
pub pieces_room : (n : ℕ) (all : List (Option ℕ)) (i : ℕ) → i < length all
    → pieces_after n (take i all) + n ≤ length all * n
pieces_room n [] i lt = absurd (omega (arith, lt))
pieces_room n (x ∷ xs) zero lt = omega (arith, suc-mul (length xs) n)
pieces_room n (x ∷ xs) (suc i) lt =
    let rest = pieces_room n xs i (omega (arith, lt)) in
    let one : pieces_after n (take (suc i) (x ∷ xs)) ≡ blocks_after n x
    + pieces_after n (take i xs) = sum_by-cons (blocks_after n) x (take i xs) in
    let own = behind_within n (blocks_after n x) x refl in
    omega (arith, suc-mul (length xs) n, rest, one, own)
