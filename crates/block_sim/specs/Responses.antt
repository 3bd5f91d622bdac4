-- The responses of a circuit to tests.
use Rattle.std.specs.Prelude.{◌≡◌, ℕ, Bool, List, map, length, Some, None, slice_get}
use Rattle.std.specs.Prelude.{slice_index_or}
use Rattle.bench_net.specs.Statement.{Name, Statement}
use Rattle.bench_net.specs.Scan.{observers}
use Rattle.fault_model.specs.Solution.{Test, Solves, shows}
use Rattle.patterns.specs.Tests.{TestList}
use Rattle.flat_circuit.specs.Words.{lane}

-- The rows are the responses to tests. Each test has one row: for each observer, the outputs and
-- then the cells' data pins, its bit in the fault-free solution.
pub record AreResponses (c : List Statement) (tests : List Test) (rows : TestList) : Type 0 where
  pub width : rows.width ≡ length (observers c)
  pub count : length rows.tests ≡ length tests
  pub each : (t : ℕ) (test : Test) (v : Name → Bool) → slice_get tests t ≡ Some test
      → Solves c test None v → slice_get rows.tests t ≡ Some (map (shows None v) (observers c))

-- the bits of signals, given by their numbers, in one lane of a group's words
abbrev pub lane_row : List ℕ → List ℕ → ℕ → List Bool
lane_row observed words k = map (λ s. lane (slice_index_or words s 0) k) observed
