-- Counts on the first tests of a list, and those that a run keeps.
use Rattle.std.proofs.Common.{◌≡◌, ◌<◌, ◌≤◌, ◌+◌, ◌-◌, ◌*◌, ℕ, suc, Bool, List, length, map, min}
use Rattle.std.{proofs.Common.{Option, None, ap, ◌∙◌, arith, cond, subst}, specs.Bool.Decides}
use Rattle.std.specs.Prelude.{Some, count_by, nat_lt, slice_get, slice_index}
use Rattle.std.proofs.lemmas.{List.length-map, Option.slice_get_within}
use Rattle.list_lemmas.proofs.Places.{from_mapped, within_place}
use Rattle.counting_sort.specs.SortedPlaces.{ArePositions}
use Rattle.fault_model.specs.{Fault.Fault, Collapse.representatives, Detection.DetectsAt}
use Rattle.patterns.specs.{Least.{below, from_up}, Tests.blocks}
use Rattle.block_sim.{specs.Parts.{BelongTogether, Parts}, proofs.Public.which_detect}
use Rattle.flat_circuit.proofs.Public.{representative_at}
use Rattle.region_sim.specs.Goals.{IsFirstHit}
use Rattle.region_runs.specs.Tasks.{AreKept, first_tests, task_of}
use Rattle.n_detect.specs.CountLaws.{count_more, count_none, count_parts}
use Rattle.n_detect.specs.{Detections.{AreCountsAt, IsClassCount}, HitCounts.{IsHitCount, one_of}}
use Rattle.n_detect.proofs.RangeCounts.{all_blocks}

-- of the first tests, as many as the number, this many detect the representative of a class,
-- counted up to `most`
abbrev IsCountBefore : Parts → ℕ → ℕ → ℕ → ℕ → Type 0
IsCountBefore job most class tests count = (r : Fault) (detects : ℕ → Bool)
    → slice_get (representatives job.list.model job.circuit) class ≡ Some r
    → ((t : ℕ) → Decides (detects t) (DetectsAt job.circuit job.tests.tests r t))
    → count ≡ min most (count_by detects (below tests))

module _ (job : Parts) (most class tests count : ℕ) (b : BelongTogether job)
    (lt : class < length job.classes.representative) where
  fault : (r : Fault) × (slice_get (representatives job.list.model job.circuit) class ≡ Some r)
  fault =
      let k = within_place job.classes.representative class lt in
      let r = representative_at job.list.model job.circuit job.classes class k.0 b.classes k.1 in
      (r.0, r.2)

  which : (detects : ℕ → Bool)
      × ((t : ℕ) → Decides (detects t) (DetectsAt job.circuit job.tests.tests fault.0 t))
  which =
      which_detect job.list.model job.circuit job.tests.tests class fault.0 b.circuit.well_formed
      fault.1

  counted_by : count ≡ min most (count_by which.0 (below (length job.tests.tests)))
      → IsClassCount job most class count
  counted_by number = record {
    fault = fault.0;
    of = fault.1;
    count = record { detects = which.0; decides = which.1; number = number };
  }

  -- all tests are counted
  pub counted_before : length job.tests.tests ≤ tests → IsCountBefore job most class tests count
      → IsClassCount job most class count
  counted_before done counted =
      let so_far = counted fault.0 which.0 fault.1 which.1 in
      let all = all_blocks job.circuit job.tests.tests fault.0 which.0 which.1 tests done in
      counted_by (so_far ∙ ap (min most) all)

-- what a run for counts keeps of a class is its count
pub count_kept : (job : Parts) (most : ℕ) (classes kept : List ℕ) → BelongTogether job
    → AreKept (task_of job 0 (λ n. nat_lt n most) (IsHitCount most)) classes kept
    → (k class n : ℕ) → class < length job.classes.representative
    → slice_get classes k ≡ Some class → slice_get kept k ≡ Some n → IsClassCount job most class n
count_kept job most classes kept b are k class n lt at is =
    counted_before job most class (64 * blocks (length job.tests.tests)) n b lt (omega arith)
    (λ r detects of decides.
    let whole : 64 * blocks (length job.tests.tests) - 0 ≡ 64 * blocks (length job.tests.tests) =
    omega arith in
    are.each detects k class n at is (r, of, decides)
    ∙ ap (λ m. min most (count_by detects (below m))) whole)

-- so it is at the position of each class
pub counts_at : (job : Parts) (most : ℕ) (classes positions kept : List ℕ) → BelongTogether job
    → ArePositions classes positions → length positions ≡ length job.classes.representative
    → AreKept (task_of job 0 (λ n. nat_lt n most) (IsHitCount most)) classes kept
    → AreCountsAt job most positions kept
counts_at job most classes positions kept b placed long are = record {
  count = long;
  within = λ class lt.
      let at = placed.each class (omega (arith, lt, long)) in
      let low = slice_get_within classes (slice_index positions class) class at in
      let count = are.count in
      omega (arith, low, count);
  each = λ class n lt is.
      count_kept job most classes kept b are (slice_index positions class) class n lt
      (placed.each class (omega (arith, lt, long))) is;
}

-- one hit at least, if there is a first one
one_hit : (hits : ℕ → Bool) (low high : ℕ) (first : Option ℕ) → IsFirstHit hits low high first
    → IsHitCount 1 hits low high (one_of first)
one_hit hits low high None none =
    let count = count_none hits low (high - low)
    (λ j lt. none (low + j) (omega arith) (omega (arith, lt))) in
    omega (arith, count)
one_hit hits low high (Some t) h =
    let up = h.0 in
    let below = h.1 in
    let parts : high - low ≡ (t - low) + suc (high - suc t) = omega (arith, up, below) in
    let whole = ap (λ k. count_by hits (from_up low k)) parts in
    let both = count_parts hits low (t - low) (suc (high - suc t)) in
    let at : low + (t - low) ≡ t = omega (arith, up) in
    let moved = ap (λ a. count_by hits (from_up a (suc (high - suc t)))) at in
    let own = count_more hits t (high - suc t) in
    let number : Bool → ℕ = λ b. cond b 1 0 in
    let here : number (hits t) ≡ 1 = ap number h.2 in
    omega (arith, whole, both, moved, own, here)

-- counts up to 1, from the first tests of classes
pub ones_kept : (job : Parts) (most : ℕ) (classes : List ℕ) (firsts : List (Option ℕ))
    → most ≤ 1 → AreKept (first_tests job) classes firsts
    → AreKept (task_of job 0 (λ n. nat_lt n most) (IsHitCount most)) classes
    (map (λ first. min most (one_of first)) firsts)
ones_kept job most classes firsts few are = record {
  count = length-map firsts (λ first. min most (one_of first)) ∙ are.count;
  each = λ hits k class one ec ek h.
      let x = from_mapped (λ first. min most (one_of first)) firsts k one ek in
      let own = one_hit hits 0 (64 * blocks (length job.tests.tests)) x.0
      (are.each hits k class x.0 ec x.1 h) in
      subst (IsHitCount most hits 0 (64 * blocks (length job.tests.tests))) x.2
      (omega (arith, own, few));
}
