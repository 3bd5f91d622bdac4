-- The windows of a run, one after another.
use Rattle.std.proofs.Common.{◌≡◌, ◌<◌, ◌≤◌, ◌+◌, ◌*◌, ◌∙◌, ℕ, List, ap, arith, min, sym}
use Rattle.std.{proofs.lemmas.Grind.div_ceil_times, specs.Int.div_ceil}
use Rattle.std.proofs.Math.Nat.{min-eq_left, min-eq_right, mul-le-mul_right}
use Rattle.patterns.specs.Tests.{TestList}
use Rattle.block_sim.specs.Parts.{Parts, with_tests}
use Rattle.region_sim.specs.ClassOrder.{AreAllByRegion}
use Rattle.region_runs.specs.Part.{ArePartOf}

-- a window that there is begins before the last block
pub step_within : (blocks step number : ℕ) → 0 < step → number < div_ceil blocks step
    → number * step < blocks
step_within blocks step number some lt =
    let up : (number + 1) * step ≤ div_ceil blocks step * step =
    mul-le-mul_right step (omega (arith, lt)) in
    let high = (div_ceil_times blocks step some).1 in
    let next : (number + 1) * step ≡ number * step + step = omega arith in
    omega (arith, up, high, next)

-- after all windows no block is left
pub step_all : (blocks step number : ℕ) → 0 < step → div_ceil blocks step ≤ number
    → min (number * step) blocks ≡ blocks
step_all blocks step number some le =
    let up : div_ceil blocks step * step ≤ number * step = mul-le-mul_right step le in
    let low = (div_ceil_times blocks step some).0 in
    min-eq_right (omega (arith, up, low))

-- a window begins where those before it end
pub step_first : (blocks step number : ℕ) → number * step < blocks
    → min (number * step) blocks ≡ number * step
step_first blocks step number lt = min-eq_left (omega (arith, lt))

-- the order of classes doesn't depend on the tests
pub all_with : (job : Parts) (tests : TestList) (classes : List ℕ) → AreAllByRegion job classes
    → AreAllByRegion (with_tests job tests) classes
all_with job tests classes are = record {
  visits = are.visits;
  each = are.each;
  all = are.all;
  ordered = are.ordered;
  few = are.few;
}

pub part_with : (job : Parts) (tests : TestList) (parts part : ℕ) (classes : List ℕ)
    → ArePartOf job parts part classes → ArePartOf (with_tests job tests) parts part classes
part_with job tests parts part classes are = record {
  visits = are.visits;
  each = are.each;
  all = are.all;
  ordered = are.ordered;
  few = are.few;
}

-- stretches that are as they were have their own tests
pub tests_kept : (next job : Parts) → next ≡ job → next ≡ with_tests job next.tests
tests_kept next job is = is ∙ ap (λ (j : Parts). with_tests job j.tests) (sym is)

-- so have stretches that took other tests
pub tests_set : (next job : Parts) (tests : TestList) → next ≡ with_tests job tests
    → next ≡ with_tests job next.tests
tests_set next job tests is = is ∙ ap (λ (j : Parts). with_tests job j.tests) (sym is)
