-- Launch-on-capture pairs.
use Rattle.std.specs.Prelude.{◌≡◌, ⊤, ℕ, ◌+◌, ◌*◌, ◌<◌, ◌++◌, Bool, List, [], length, map, take}
use Rattle.std.specs.Prelude.{drop, None, Some, slice_get, slice_index_or}
use Rattle.bench_net.specs.Statement.{Name, Statement}
use Rattle.bench_net.specs.Scan.{cells, inputs}
use Rattle.fault_model.specs.Solution.{Test, Solves}
use Rattle.patterns.specs.declared.TestFault.{TestFault}
use Rattle.patterns.specs.declared.TestFault.TheVariants as test_fault
use Rattle.patterns.specs.Tests.{max_tests}

-- the bits that the flip-flops capture at their data pins, in the order of the cells
abbrev pub captured : List Statement → (Name → Bool) → List Bool
captured c v = map (λ cell. v cell.1) (cells c)

-- Launch-on-capture pairs: for each test two rows. The first is the test. The second has its bits
-- at the primary inputs, which are held. In the scan cells it has the bits that they capture under
-- the test in the fault-free circuit.
pub record AreLaunchPairs (c : List Statement) (tests pairs : List Test) : Type 0 where
  pub count : length pairs ≡ 2 * length tests
  pub launch : (t : ℕ) (test : Test) → slice_get tests t ≡ Some test
      → slice_get pairs (2 * t) ≡ Some test
  pub capture : (t : ℕ) (test : Test) (v : Name → Bool) → slice_get tests t ≡ Some test
      → Solves c test None v
      → slice_get pairs (2 * t + 1) ≡ Some (take (length (inputs c)) test ++ captured c v)

-- the pairs of this number of tests are more than a list of tests may have
abbrev pub AreTooManyPairs : ℕ → Type 0
AreTooManyPairs tests = max_tests < 2 * tests

-- the error of the pairs of this number of tests
abbrev pub IsPairingFault : ℕ → TestFault → Type 0
IsPairingFault tests test_fault.Memory = ⊤
IsPairingFault tests test_fault.TooMany = AreTooManyPairs tests
IsPairingFault tests _ = ⊥

-- The rows of the pairs of the first n tests: the test's row, and then a row of its first `held`
-- bits and of the last bits that are shown under it.
pub record ArePairRows (tests shown : List Test) (held from n : ℕ) (pairs : List Test)
    : Type 0 where
  pub count : length pairs ≡ 2 * n
  pub first : (t : ℕ) → t < n → slice_get pairs (2 * t) ≡ Some (slice_index_or tests t [])
  pub second : (t : ℕ) → t < n → slice_get pairs (2 * t + 1)
      ≡ Some (take held (slice_index_or tests t []) ++ drop from (slice_index_or shown t []))
