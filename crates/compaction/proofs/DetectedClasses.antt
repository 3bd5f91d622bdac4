-- The tests that detect each class, by the words of the class.
use Rattle.std.proofs.Common.{◌≡◌, ◌+◌, ◌*◌, ◌/◌, ◌%◌, ◌<◌, ◌≤◌, ◌∙◌, ◌⊎◌, ◌==◌, inl, inr, ℕ, List}
use Rattle.std.proofs.Common.{[], Bool, true, false, ap, arith, get_or, length, map, not, refl}
use Rattle.std.{proofs.Common.{subst, sym}, specs.List.list_any, specs.Bool.Decides}
use Rattle.std.proofs.lemmas.{Bool.{cases_lt, eqb-true, false≢true}, List.Folds.list_any_at}
use Rattle.std.proofs.lemmas.List.{get_or_past, get_or-map, length-map}
use Rattle.std.specs.Prelude.{Option, Some, slice_get, slice_index, unwrap_or}
use Rattle.std.specs.declared.vec.Vec.{Vec}
use Rattle.std.proofs.lemmas.Option.{get_or_from_slice_get, slice_get-get_or, slice_get_within}
use Rattle.flat_circuit.{proofs.Public.lane_zero, specs.Words.lane}
use Rattle.list_lemmas.proofs.Places.{within_place}
use Rattle.fault_model.specs.{Collapse.representatives, Detection.DetectsAt, Fault.{Fault, faults}}
use Rattle.block_sim.specs.Parts.{BelongTogether, Parts}
use Rattle.n_detect.specs.ClassTests.{AreClassTests}
use Rattle.compaction.specs.Detections.{DetectionTable, HasGroups, detects_by, is_detected}
use Rattle.compaction.specs.{Detections.words_of, Steepest.DetectsClasses}

-- the words of the class at a position
row_read : {Z : Type 0} (rows : List (Vec ℕ Z)) (position : ℕ) (row : Vec ℕ Z)
    → slice_get rows position ≡ Some row → get_or (map (λ v. v.items) rows) position [] ≡ row.items
row_read rows position row at =
    get_or-map (λ v. v.items) rows position row [] (slice_get_within rows position row at)
    ∙ ap (λ v. v.items) (get_or_from_slice_get rows position row row at)

-- those of a class
words_read : {Z : Type 0} (positions : List ℕ) (rows : List (Vec ℕ Z)) (class : ℕ)
    → class < length positions → get_or (words_of positions rows) class []
    ≡ get_or (map (λ v. v.items) rows) (slice_index positions class) []
words_read positions rows class lt =
    get_or-map (λ p. get_or (map (λ v. v.items) rows) p []) positions class 0 [] lt

-- there are as many classes as representatives
pub class_count : (job : Parts) → BelongTogether job
    → length (representatives job.list.model job.circuit) ≡ length job.classes.representative
class_count job b =
    sym (sym (length-map job.classes.representative (slice_get (faults job.list.model job.circuit)))
    ∙ ap (λ (l : List (Option Fault)). length l) b.classes.representative
    ∙ length-map {B = Option Fault} (representatives job.list.model job.circuit) Some)

module _ {Z : Type 0} (job : Parts) (positions : List ℕ) (rows : List (Vec ℕ Z))
    (are : AreClassTests job positions rows) where
  pub has_groups : HasGroups (record {
    words = words_of positions rows;
    tests = length job.tests.tests;
  })
  has_groups = λ class d lt.
      let long = length-map positions
      (λ position. get_or (map (λ (v : Vec ℕ Z). v.items) rows) position []) in
      let count = are.count in
      let low : class < length job.classes.representative = omega (arith, lt, long, count) in
      let row = within_place rows (slice_index positions class) (are.within class low) in
      let at : slice_get (words_of positions rows) class
      ≡ Some (get_or (words_of positions rows) class d) =
      slice_get-get_or (words_of positions rows) class d lt in
      let same : get_or (words_of positions rows) class d ≡ row.0.items =
      sym (get_or_from_slice_get (words_of positions rows) class
      (get_or (words_of positions rows) class d) [] at)
      ∙ (words_read positions rows class (omega (arith, lt, long))
      ∙ row_read rows (slice_index positions class) row.0 row.1) in
      ap length same ∙ are.long class row.0 low row.1

  pub detects_classes : BelongTogether job
      → DetectsClasses job.list.model job.circuit job.tests.tests
      (detects_by (record { words = words_of positions rows; tests = length job.tests.tests }))
  detects_classes b class t r at lt =
      let c = job.circuit in
      let tests = job.tests.tests in
      let k = t % 128 in
      let count = are.count in
      let within = slice_get_within (representatives job.list.model c) class r at in
      let low : class < length job.classes.representative =
      omega (arith, within, class_count job b) in
      let row = within_place rows (slice_index positions class) (are.within class low) in
      let long = are.long class row.0 low row.1 in
      let here : t / 128 < (length tests + 127) / 128 = omega (arith, lt) in
      let word = within_place row.0.items (t / 128) (omega (arith, here, long)) in
      let lanes = are.each class (t / 128) word.0 row.0 low row.1 word.1 in
      let same : lanes.0 ≡ r = ap (λ o. unwrap_or o r) (sym lanes.1 ∙ at) in
      let number : 128 * (t / 128) + t % 128 ≡ t = omega arith in
      let small : t % 128 < 128 = omega arith in
      let own : Decides (lane word.0 k) (DetectsAt c tests lanes.0 (128 * (t / 128) + k)) =
      lanes.2 k small in
      let of_r : Decides (lane word.0 k) (DetectsAt c tests r t) =
      subst (λ f. Decides (lane word.0 k) (DetectsAt c tests f t)) same
      (subst (λ n. Decides (lane word.0 k) (DetectsAt c tests lanes.0 n)) number own) in
      let read : get_or (get_or (words_of positions rows) class []) (t / 128) 0 ≡ word.0 =
      ap (λ xs. get_or xs (t / 128) 0) (words_read positions rows class (omega (arith, low, count))
      ∙ row_read rows (slice_index positions class) row.0 row.1)
      ∙ get_or_from_slice_get row.0.items (t / 128) word.0 0 word.1 in
      subst (λ w. Decides (lane w k) (DetectsAt c tests r t)) (sym read) of_r

-- ---- classes that no test detects

-- a row of words without a lane
no_lane : (row : List ℕ) → list_any (λ word. not (word == 0)) row ≡ false → (group k : ℕ)
    → lane (get_or row group 0) k ≡ false
no_lane row none group k = go (cases_lt group (length row))
  where
    zero_so : (b : Bool) → (get_or row group 0 == 0) ≡ b → group < length row
        → get_or row group 0 ≡ 0
    zero_so true e lt = eqb-true (get_or row group 0) 0 e
    zero_so false e lt =
        let on = list_any_at (λ word. not (word == 0)) row group 0 lt (ap not e) in
        absurd (false≢true (sym none ∙ on))

    read : get_or row group 0 ≡ 0 → lane (get_or row group 0) k ≡ false
    read e = ap (λ w. lane w k) e ∙ lane_zero k

    go : (group < length row) ⊎ (length row ≤ group) → lane (get_or row group 0) k ≡ false
    go (inl lt) = read (zero_so (get_or row group 0 == 0) refl lt)
    go (inr past) = read (get_or_past row group 0 past)

pub undetected : (table : DetectionTable) (class t : ℕ) → is_detected table class ≡ false
    → detects_by table class t ≡ false
undetected table class t none = no_lane (get_or table.words class []) none (t / 128) (t % 128)
