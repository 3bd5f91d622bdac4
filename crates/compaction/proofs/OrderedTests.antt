-- The faults that tests in steepest order detect.
use Rattle.std.proofs.Common.{◌≡◌, ◌+◌, ◌-◌, ◌*◌, ◌/◌, ◌<◌, ◌≤◌, ◌∙◌, ◌∷◌, [], ℕ, zero, suc, Bool}
use Rattle.std.proofs.Common.{List, ap, arith, eqb, false, get_or, inl, inr, length, refl, subst}
use Rattle.std.{proofs.Common.{sym, take, true}, specs.Prelude.unwrap_or, specs.List.list_any}
use Rattle.std.specs.Prelude.{◌≢◌, All, Contains, None, Some, flat_map, map, option_map, slice_get}
use Rattle.std.proofs.lemmas.{Bool.{eq-eqb, eqb-true}, List.Folds.list_any_at}
use Rattle.std.proofs.lemmas.List.{get_or-map, get_or-take, length-map, length-take-le}
use Rattle.std.proofs.lemmas.Map.{Keys.IsDistinct-from_apart, Steps.length-le_from_distinct_below}
use Rattle.std.proofs.lemmas.Option.{get_or_from_slice_get, slice_get-get_or, slice_get-map}
use Rattle.bench_net.specs.Statement.{Statement}
use Rattle.list_lemmas.proofs.Members.{Among, among, joined_from, some_passes}
use Rattle.list_lemmas.proofs.Places.{at_place, from_mapped, placed, place_within, within_place}
use Rattle.fault_model.specs.{declared.Model.Model, Collapse.{IsClassOf, representatives}}
use Rattle.fault_model.specs.declared.Model.TheVariants.{StuckAt, Transition, TransitionPairs}
use Rattle.fault_model.specs.Detection.{DetectsAt, IsInitialized, IsSecondOfPair, LooksBack}
use Rattle.fault_model.specs.{Fault.{Fault, faults}, Solution.Test}
use Rattle.fault_model.proofs.Public.{classes_detected_same, listed_model, own_class}
use Rattle.block_sim.specs.Parts.{BelongTogether, Parts}
use Rattle.patterns.{specs.Least.below, proofs.Public.length-below}
use Rattle.compaction.specs.{Compaction.{Covers, IsNumbered}, Steepest.{at_places, with_launches}}
use Rattle.compaction.specs.Steepest.{DetectsClasses, IsOrdered, IsSteepest, IsSteepestCompaction}
use Rattle.compaction.specs.declared.TestOrder.TheVariants.{Steepest}
use Rattle.compaction.specs.Detections.{DetectionTable, detects_by}
use Rattle.compaction.proofs.{DetectedClasses.class_count, ElementsAtMarks.as_many_marked}
use Rattle.compaction.proofs.SteepestOrder.{new_class, not_true}

-- ---- the class of a fault

-- a fault of the list has a class with a representative
pub class_of : (job : Parts) (f : Fault) → BelongTogether job
    → Contains (faults job.list.model job.circuit) f
    → (class : ℕ) × IsClassOf job.list.model job.circuit f class
class_of job f b listed =
    let m = job.list.model in
    let c = job.circuit in
    let at = placed (faults m c) f (among (faults m c) f listed) in
    let low = place_within (faults m c) at.0 f at.1 in
    let class = within_place job.classes.class_of at.0 (omega (arith, low, b.classes.count)) in
    (class.0, b.classes.class at.0 f class.0 at.1 class.1)

-- a fault is detected if the representative of its class is
pub as_class : (job : Parts) (f : Fault) (class : ℕ) (tests : List Test) (t : ℕ)
    → BelongTogether job → (of : IsClassOf job.list.model job.circuit f class)
    → DetectsAt job.circuit tests f t → DetectsAt job.circuit tests of.0 t
as_class job f class tests t b of =
    (classes_detected_same job.circuit b.circuit.well_formed b.circuit.arities f of.0 tests t
    (job.list.model, class, of, own_class job.list.model job.circuit of.0 class of.3)).0

pub as_fault : (job : Parts) (f : Fault) (class : ℕ) (tests : List Test) (t : ℕ)
    → BelongTogether job → (of : IsClassOf job.list.model job.circuit f class)
    → DetectsAt job.circuit tests of.0 t → DetectsAt job.circuit tests f t
as_fault job f class tests t b of =
    (classes_detected_same job.circuit b.circuit.well_formed b.circuit.arities f of.0 tests t
    (job.list.model, class, of, own_class job.list.model job.circuit of.0 class of.3)).1

-- ---- the rows of an order

-- a test of the order that detects a class, if some test does
in_order : (p : ℕ → Bool) (order : List ℕ) → list_any p order ≡ true
    → (k : ℕ) × (t : ℕ) × (slice_get order k ≡ Some t) × (p t ≡ true)
in_order p order e =
    let some = some_passes p order e in
    let at = placed order some.0 (among order some.0 some.1) in
    (at.0, some.0, at.1, some.2)

placed_row : (tests : List Test) (places : List ℕ) (k t : ℕ) (row : Test)
    → slice_get places k ≡ Some t → slice_get tests t ≡ Some row
    → slice_get (at_places [] tests places) k ≡ Some row
placed_row tests places k t row at is = slice_get-map (λ place. get_or tests place []) places k
    ∙ (ap (option_map (λ place. get_or tests place [])) at
    ∙ ap Some (get_or_from_slice_get tests t row [] is))

-- the places of a pair of an order
launch_at : (order : List ℕ) (k t : ℕ) → slice_get order k ≡ Some t
    → slice_get (flat_map (λ t. (t - 1) ∷ t ∷ []) order) (2 * k) ≡ Some (t - 1)
launch_at [] k t e = let bad : None ≡ Some t = e in cc
launch_at (x ∷ order) zero t e = let same : x ≡ t = ap (λ o. unwrap_or o t) e in
    ap (λ n. Some (n - 1)) same
launch_at (x ∷ order) (suc k) t e =
    let two : suc (suc (2 * k)) ≡ 2 * suc k = omega arith in
    subst (λ i. slice_get (flat_map (λ t. (t - 1) ∷ t ∷ []) (x ∷ order)) i ≡ Some (t - 1)) two
    (launch_at order k t e)

capture_at : (order : List ℕ) (k t : ℕ) → slice_get order k ≡ Some t
    → slice_get (flat_map (λ t. (t - 1) ∷ t ∷ []) order) (suc (2 * k)) ≡ Some t
capture_at [] k t e = let bad : None ≡ Some t = e in cc
capture_at (x ∷ order) zero t e = e
capture_at (x ∷ order) (suc k) t e =
    let two : suc (suc (suc (2 * k))) ≡ suc (2 * suc k) = omega arith in
    subst (λ i. slice_get (flat_map (λ t. (t - 1) ∷ t ∷ []) (x ∷ order)) i ≡ Some t) two
    (capture_at order k t e)

-- the faults that the tests of an order detect, and their rows too
pub placed_detects : (m : Model) (c : List Statement) (tests : List Test) (order : List ℕ)
    (k t : ℕ) (f : Fault) → m ≢ Transition → f.model ≡ m → slice_get order k ≡ Some t
    → DetectsAt c tests f t → (j : ℕ) × DetectsAt c (at_places [] tests (with_launches m order)) f j
placed_detects StuckAt c tests order k t f other model at d = (
  k,
  (
    d.0,
    placed_row tests order k t d.0 at d.1,
    d.2,
    subst (λ x. LooksBack c (at_places [] tests order) x f.line f.stuck k) (sym model) tt,
  ),
)
placed_detects Transition c tests order k t f other model at d = absurd (other refl)
placed_detects TransitionPairs c tests order k t f other model at d =
    go t at d.1 (subst (λ x. LooksBack c tests x f.line f.stuck t) model d.3)
  where
    places : List ℕ
    places = flat_map (λ t. (t - 1) ∷ t ∷ []) order

    go : (t : ℕ) → slice_get order k ≡ Some t → slice_get tests t ≡ Some d.0
        → IsSecondOfPair t × IsInitialized c tests f.line f.stuck t
        → (j : ℕ) × DetectsAt c (at_places [] tests places) f j
    go zero at is looks = absurd looks.1
    go (suc t) at is looks =
        let before = looks.1 in
        let same : suc t - 1 ≡ t = omega arith in
        let launch : slice_get places (2 * k) ≡ Some t = launch_at order k (suc t) at
        ∙ ap Some same in
        let odd : suc (2 * k) ≡ 2 * k + 1 = omega arith in (
          suc (2 * k),
          (
            d.0,
            placed_row tests places (suc (2 * k)) (suc t) d.0 (capture_at order k (suc t) at) is,
            d.2,
            subst (λ x. LooksBack c (at_places [] tests places) x f.line f.stuck (suc (2 * k)))
                (sym model) (
                  (k, odd),
                  (before.0, placed_row tests places (2 * k) t before.0 launch before.1, before.2),
                ),
          ),
        )

-- the tests in steepest order detect the faults that all tests detect
pub order_covers : (job : Parts) (detects : ℕ → ℕ → Bool) (order : List ℕ) → BelongTogether job
    → job.list.model ≢ Transition
    → DetectsClasses job.list.model job.circuit job.tests.tests detects
    → IsSteepest detects (length (representatives job.list.model job.circuit))
    (length job.tests.tests) order → Covers job.list.model job.circuit job.tests.tests
    (at_places [] job.tests.tests (with_launches job.list.model order))
order_covers job detects order b other decides steepest = λ f t listed d.
    let m = job.list.model in
    let c = job.circuit in
    let tests = job.tests.tests in
    let of = class_of job f b listed in
    let class = of.0 in
    let r = of.1.0 in
    let low = place_within (representatives m c) class r of.1.3 in
    let lt = place_within tests t d.0 d.1 in
    let own = (decides class t r of.1.3 lt).1 (as_class job f class tests t b of.1 d) in
    let found = in_order (detects class) order (steepest.all class t low lt own) in
    let within = steepest.within found.0 found.1 found.2 in
    let there = (decides class found.1 r of.1.3 within).0 found.3 in
    placed_detects m c tests order found.0 found.1 f other (listed_model m c f listed) found.2
    (as_fault job f class tests found.1 b of.1 there)

-- ---- the number of tests of an order

-- each test of an order comes once: it has news, and none after itself
apart : (detects : ℕ → ℕ → Bool) (classes tests : ℕ) (order : List ℕ)
    → IsSteepest detects classes tests order → (i j d : ℕ) → i < j → j < length order
    → eqb (get_or order i d) (get_or order j d) ≡ false
apart detects classes tests order is i j d lt low =
    not_true (eqb (get_or order i d) (get_or order j d)) (λ e.
    let s = get_or order j d in
    let at = slice_get-get_or order j d low in
    let found = new_class detects classes (take j order) s (is.some j s at) in
    let same : get_or order i d ≡ s = eqb-true (get_or order i d) s e in
    let short : length (take j order) ≡ j = length-take-le j order (omega (arith, low)) in
    let there : get_or (take j order) i d ≡ s = get_or-take j order i d lt ∙ same in
    let before : list_any (detects found.0) (take j order) ≡ true =
    list_any_at (detects found.0) (take j order) i d (omega (arith, lt, short))
    (ap (detects found.0) there ∙ found.2) in
    let bad : true ≡ false = sym before ∙ found.3 in absurd (cc))

few_tests : (detects : ℕ → ℕ → Bool) (classes tests : ℕ) (order : List ℕ)
    → IsSteepest detects classes tests order → length order ≤ tests
few_tests detects classes tests order is = length-le_from_distinct_below order tests
    (IsDistinct-from_apart eqb order (apart detects classes tests order is)) (λ q e.
    let some = some_passes (eqb q) order e in
    let at = placed order some.0 (among order some.0 some.1) in
    let same : q ≡ some.0 = eqb-true q some.0 some.2 in
    let low = is.within at.0 some.0 at.1 in
    omega (arith, same, low))

-- in a list of pairs each is the second of its pair, so they are at most half of the tests
abbrev AreSeconds : List ℕ → Type 0
AreSeconds order = (k s : ℕ) → slice_get order k ≡ Some s → IsSecondOfPair s

abbrev half : ℕ → ℕ
half t = t / 2

seconds : (c : List Statement) (tests : List Test) (detects : ℕ → ℕ → Bool) (order : List ℕ)
    → DetectsClasses TransitionPairs c tests detects
    → IsSteepest detects (length (representatives TransitionPairs c)) (length tests) order
    → AreSeconds order
seconds c tests detects order decides is k s at =
    let m = TransitionPairs in
    let found =
    new_class detects (length (representatives m c)) (take k order) s (is.some k s at) in
    let r = within_place (representatives m c) found.0 found.1 in
    let d = (decides found.0 s r.0 r.1 (is.within k s at)).0 found.2 in
    let own = own_class m c r.0 found.0 r.1 in
    let looks : LooksBack c tests m r.0.line r.0.stuck s =
    subst (λ x. LooksBack c tests x r.0.line r.0.stuck s) (listed_model m c r.0 own.1) d.3 in
    looks.0

few_pairs : (detects : ℕ → ℕ → Bool) (classes tests : ℕ) (order : List ℕ)
    → IsSteepest detects classes tests order → AreSeconds order → length order ≤ tests / 2
few_pairs detects classes tests order is odd =
    let short = length-map order half in
    let few = length-le_from_distinct_below (map half order) (tests / 2)
    (IsDistinct-from_apart eqb (map half order) halves) below_half in
    omega (arith, short, few)
  where
    halves : (i j d : ℕ) → i < j → j < length (map half order)
        → eqb (get_or (map half order) i d) (get_or (map half order) j d) ≡ false
    halves i j d lt low =
        not_true (eqb (get_or (map half order) i d) (get_or (map half order) j d)) (λ e.
        let short = length-map order half in
        let lj : j < length order = omega (arith, low, short) in
        let li : i < length order = omega (arith, lt, lj) in
        let x = get_or order i d in
        let y = get_or order j d in
        let hx : get_or (map half order) i d ≡ x / 2 = get_or-map half order i d d li in
        let hy : get_or (map half order) j d ≡ y / 2 = get_or-map half order j d d lj in
        let same = eqb-true (get_or (map half order) i d) (get_or (map half order) j d) e in
        let ox = odd i x (slice_get-get_or order i d li) in
        let oy = odd j y (slice_get-get_or order j d lj) in
        let ex = ox.1 in
        let ey = oy.1 in
        let both : x ≡ y = omega (arith, hx, hy, same, ex, ey) in
        let bad : true ≡ false = sym (eq-eqb x y both)
        ∙ apart detects classes tests order is i j d lt lj in absurd (cc))

    below_half : (q : ℕ) → list_any (eqb q) (map half order) ≡ true → q < tests / 2
    below_half q e =
        let some = some_passes (eqb q) (map half order) e in
        let at = placed (map half order) some.0 (among (map half order) some.0 some.1) in
        let from = from_mapped half order at.0 some.0 at.1 in
        let same : q ≡ some.0 = eqb-true q some.0 some.2 in
        let low = is.within at.0 from.0 from.1 in
        let own = odd at.0 from.0 from.1 in
        let number = own.1 in
        let halved : from.0 / 2 ≡ some.0 = from.2 in
        omega (arith, same, low, number, halved)

twice_long : (order : List ℕ) → length (flat_map (λ t. (t - 1) ∷ t ∷ []) order) ≡ 2 * length order
twice_long [] = refl
twice_long (t ∷ order) = let rest = twice_long order in omega (arith, rest)

pub few_places : (m : Model) (c : List Statement) (tests : List Test) (detects : ℕ → ℕ → Bool)
    (order : List ℕ) → DetectsClasses m c tests detects
    → IsSteepest detects (length (representatives m c)) (length tests) order
    → length (with_launches m order) ≤ length tests
few_places StuckAt c tests detects order decides is =
    few_tests detects (length (representatives StuckAt c)) (length tests) order is
few_places Transition c tests detects order decides is =
    few_tests detects (length (representatives Transition c)) (length tests) order is
few_places TransitionPairs c tests detects order decides is =
    let few = few_pairs detects (length (representatives TransitionPairs c)) (length tests) order is
    (seconds c tests detects order decides is) in
    let two = twice_long order in
    omega (arith, few, two)

-- ---- its places are places of tests

order_within : (order : List ℕ) (n : ℕ) → ((k s : ℕ) → slice_get order k ≡ Some s → s < n)
    → (m : Model) (k s : ℕ) → slice_get (with_launches m order) k ≡ Some s → s < n
order_within order n each StuckAt k s at = each k s at
order_within order n each Transition k s at = each k s at
order_within order n each TransitionPairs k s at =
    let pair : ℕ → List ℕ = λ t. (t - 1) ∷ t ∷ [] in
    let from = joined_from pair order s (at_place (flat_map pair order) k s at) in
    let place = placed order from.0 from.1 in
    of from.0 (each place.0 from.0 place.1) from.2
  where
    of : (t : ℕ) → t < n → Among s ((t - 1) ∷ t ∷ []) → s < n
    of t lt (inl e) = omega (arith, lt, e)
    of t lt (inr (inl e)) = omega (arith, lt, e)
    of t lt (inr (inr none)) = absurd none

pub places_within : (m : Model) (detects : ℕ → ℕ → Bool) (classes n : ℕ) (order : List ℕ)
    → IsSteepest detects classes n order → All (λ place. place < n) (with_launches m order)
places_within m detects classes n order is = λ k d lt.
    order_within order n is.within m k (get_or (with_launches m order) k d)
    (slice_get-get_or (with_launches m order) k d lt)

-- ---- the whole compaction

-- as many numbers as tests
pub numbered_all : (m : Model) (c : List Statement) (tests kept : List Test) (numbers : List ℕ)
    → IsNumbered m c tests kept numbers → length numbers ≡ length kept
numbered_all m c tests kept numbers is =
    ap length is.1 ∙ (as_many_marked is.0.marks (below (length tests)) tests
    (length-below (length tests)) ∙ ap length (sym is.0.rows))

pub steepest_compaction : (job : Parts) (tests kept : List Test) (given numbers order : List ℕ)
    (detects : ℕ → ℕ → Bool) → BelongTogether job → job.list.model ≢ Transition
    → IsNumbered job.list.model job.circuit tests job.tests.tests given
    → DetectsClasses job.list.model job.circuit job.tests.tests detects
    → IsSteepest detects (length (representatives job.list.model job.circuit))
    (length job.tests.tests) order
    → kept ≡ at_places [] job.tests.tests (with_launches job.list.model order)
    → numbers ≡ at_places 0 given (with_launches job.list.model order)
    → IsSteepestCompaction job.list.model job.circuit tests kept numbers
steepest_compaction job tests kept given numbers order detects b other is decides steep rows nums =
    record {
      between = job.tests.tests;
      given = given;
      compacted = is;
      order = order;
      detects = detects;
      decides = decides;
      steepest = steep;
      rows = rows;
      numbered = nums;
      covers = λ f t listed d.
          let h = is.0.covers f t listed d in
          subst (λ xs. (k : ℕ) × DetectsAt job.circuit xs f k) (sym rows)
          (order_covers job detects order b other decides steep f h.0 listed h.1);
    }

-- the order of the tests of a job, by the words of its classes
pub steepest_of : (job : Parts) (table : DetectionTable) (order : List ℕ) → BelongTogether job
    → length table.words ≡ length job.classes.representative → table.tests ≡ length job.tests.tests
    → IsSteepest (detects_by table) (length table.words) table.tests order
    → IsSteepest (detects_by table) (length (representatives job.list.model job.circuit))
    (length job.tests.tests) order
steepest_of job table order b classes tests is =
    subst (λ n. IsSteepest (detects_by table) n (length job.tests.tests) order)
    (classes ∙ sym (class_count job b))
    (subst (λ n. IsSteepest (detects_by table) (length table.words) n order) tests is)

-- ---- by the model of the job

pub transition_as : (m : Model) (c : List Statement) (tests kept : List Test) (numbers : List ℕ)
    → m ≡ Transition → IsNumbered m c tests kept numbers → IsOrdered Steepest m c tests kept numbers
transition_as StuckAt c tests kept numbers e is = let bad : StuckAt ≡ Transition = e in absurd (cc)
transition_as Transition c tests kept numbers e is = is
transition_as TransitionPairs c tests kept numbers e is =
    let bad : TransitionPairs ≡ Transition = e in absurd (cc)
