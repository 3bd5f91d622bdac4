-- The invariants of the marks and of the rows between the two passes.
use Rattle.std.specs.Prelude.{◌≡◌, ◌+◌, ◌<◌, ◌||◌, ℕ, Bool, true, false, List, length, Contains}
use Rattle.std.specs.Prelude.{None, Option, Some, slice_get, slice_index_or}
use Rattle.bench_net.specs.Statement.{Statement}
use Rattle.fault_model.specs.declared.Model.{Model}
use Rattle.fault_model.specs.declared.Model.TheVariants.{StuckAt}
use Rattle.fault_model.specs.Fault.{Fault, faults}
use Rattle.fault_model.specs.Solution.{Test}
use Rattle.fault_model.specs.Detection.{DetectsAt}
use Rattle.fault_model.specs.Collapse.{representatives}
use Rattle.block_sim.specs.First.{IsFirst}
use Rattle.block_sim.specs.Parts.{Parts}
use Rattle.compaction.specs.Compaction.{Covers, IsFirstForSome, IsLastForSome, IsSublist}
use Rattle.compaction.specs.Compaction.{at_marks}

-- the marked tests are the first of some faults, and among them is the first test of each fault
-- that a test detects
pub record AreFinding (m : Model) (c : List Statement) (tests : List Test)
    (marks : List Bool) : Type 0 where
  pub count : length marks ≡ length tests
  pub first : (t : ℕ) → slice_get marks t ≡ Some true → IsFirstForSome m c tests t
  pub found : (f : Fault) (t : ℕ) → Contains (faults m c) f → DetectsAt c tests f t
      → (s : ℕ) × IsFirst c tests f (Some s) × (slice_get marks s ≡ Some true)

-- each marked test is the last of some fault, and one of them detects each fault that a test
-- detects
pub record AreLasting (m : Model) (c : List Statement) (tests : List Test)
    (marks : List Bool) : Type 0 where
  pub count : length marks ≡ length tests
  pub last : (t : ℕ) → slice_get marks t ≡ Some true → IsLastForSome m c tests t
  pub found : (f : Fault) (t : ℕ) → Contains (faults m c) f → DetectsAt c tests f t
      → (s : ℕ) × DetectsAt c tests f s × (slice_get marks s ≡ Some true)

-- the marks of the found tests, each with the test before it
pub record AreWithBefore (found marks : List Bool) : Type 0 where
  pub count : length marks ≡ length found
  pub each : (t : ℕ) → t < length found → slice_index_or marks t false
      ≡ (slice_index_or found t false || slice_index_or found (t + 1) false)

-- of some tests the last ones of some faults with the one before each, and their numbers
abbrev pub AreLastPairsOf : Model → List Statement → List Test → List Test → List ℕ → List ℕ
    → Type 0
AreLastPairsOf m c tests kept given numbers = (last inner : List Bool)
    × AreLasting m c tests last × AreWithBefore last inner × (kept ≡ at_marks inner tests)
    × (numbers ≡ at_marks inner given)

-- the last test that detects a fault, or none if no test does
abbrev pub IsLast : List Statement → List Test → Fault → Option ℕ → Type 0
IsLast c tests f None = (t : ℕ) → ¬ DetectsAt c tests f t
IsLast c tests f (Some t) = DetectsAt c tests f t
    × ((later : ℕ) → t < later → ¬ DetectsAt c tests f later)

-- the same for the representative of a class
abbrev pub IsLastOfClass : Parts → ℕ → Option ℕ → Type 0
IsLastOfClass job class last = (r : Fault)
    × (slice_get (representatives job.list.model job.circuit) class ≡ Some r)
    × IsLast job.circuit job.tests.tests r last

-- the rows are some of the tests, detect the same stuck-at faults, and each is the last of them for
-- some fault
pub record AreLast (c : List Statement) (tests kept : List Test) : Type 0 where
  pub rows : IsSublist kept tests
  pub covers : Covers StuckAt c tests kept
  pub last : (k : ℕ) (row : Test) → slice_get kept k ≡ Some row → IsLastForSome StuckAt c kept k

-- with the numbers of the rows, from the numbers of the tests
abbrev pub AreLastOf : List Statement → List Test → List Test → List ℕ → List ℕ → Type 0
AreLastOf c tests kept given numbers =
    (are : AreLast c tests kept) × (numbers ≡ at_marks are.rows.0 given)
