-- The number of tests that detect a fault.
use Rattle.std.specs.Prelude.{◌≡◌, ◌<◌, ℕ, Bool, List, Some, count_by, length, min, slice_get}
use Rattle.std.specs.Prelude.{slice_index}
use Rattle.std.specs.Bool.{Decides}
use Rattle.bench_net.specs.Statement.{Statement}
use Rattle.fault_model.specs.declared.Model.{Model}
use Rattle.fault_model.specs.Fault.{Fault, faults}
use Rattle.fault_model.specs.Solution.{Test}
use Rattle.fault_model.specs.Collapse.{representatives}
use Rattle.fault_model.specs.Detection.{DetectsAt}
use Rattle.patterns.specs.Least.{below}
use Rattle.block_sim.specs.Parts.{Parts}

-- The number of tests that detect the fault, counted up to `most`. `detects` gives for each test
-- whether it does.
pub record IsCount (c : List Statement) (tests : List Test) (most : ℕ) (f : Fault) (n : ℕ)
    : Type 0 where
  pub detects : ℕ → Bool
  pub decides : (t : ℕ) → Decides (detects t) (DetectsAt c tests f t)
  pub number : n ≡ min most (count_by detects (below (length tests)))

-- the number of tests that detect the representative of a class
pub record IsClassCount (job : Parts) (most class n : ℕ) : Type 0 where
  pub fault : Fault
  pub of : slice_get (representatives job.list.model job.circuit) class ≡ Some fault
  pub count : IsCount job.circuit job.tests.tests most fault n

-- for each fault of the circuit's uncollapsed list the number of tests that detect it
pub record AreCounts (m : Model) (c : List Statement) (tests : List Test) (most : ℕ)
    (counts : List ℕ) : Type 0 where
  pub count : length counts ≡ length (faults m c)
  pub each : (i : ℕ) (f : Fault) (n : ℕ) → slice_get (faults m c) i ≡ Some f
      → slice_get counts i ≡ Some n → IsCount c tests most f n

-- each class has a position, and there stands its count
pub record AreCountsAt (job : Parts) (most : ℕ) (positions counts : List ℕ) : Type 0 where
  pub count : length positions ≡ length job.classes.representative
  pub within : (class : ℕ) → class < length job.classes.representative
      → slice_index positions class < length counts
  pub each : (class n : ℕ) → class < length job.classes.representative
      → slice_get counts (slice_index positions class) ≡ Some n → IsClassCount job most class n
