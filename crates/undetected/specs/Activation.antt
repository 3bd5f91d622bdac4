-- The tests of a list that activate a fault.
use Rattle.std.specs.Prelude.{◌≡◌, ℕ, not, List, Some, slice_get}
use Rattle.bench_net.specs.Statement.{Statement}
use Rattle.fault_model.specs.Fault.{Fault}
use Rattle.fault_model.specs.Solution.{Test}
use Rattle.fault_model.specs.Detection.{HasBit, LooksBack}

-- The test of this number activates the fault: in the fault-free circuit it gives the line the
-- complement of the stuck bit, and the test before meets the condition of the fault's model. So a
-- transition fault is activated if a pair of tests launches the slow transition.
abbrev pub ActivatesAt : List Statement → List Test → Fault → ℕ → Type 0
ActivatesAt c tests f t = (test : Test) × (slice_get tests t ≡ Some test)
    × HasBit c test f.line (not f.stuck) × LooksBack c tests f.model f.line f.stuck t

-- some test of the list activates the fault
abbrev pub IsActivated : List Statement → List Test → Fault → Type 0
IsActivated c tests f = (t : ℕ) × ActivatesAt c tests f t
