-- The end of following a fault in its region.
use Rattle.std.specs.Prelude.{◌≡◌, ◌<◌, ℕ, true}
use Rattle.std.specs.Prelude.{List}
use Rattle.std.specs.Bool.{Decides}
use Rattle.bench_net.specs.Statement.{Statement}
use Rattle.fault_model.specs.Fault.{Fault}
use Rattle.fault_model.specs.Solution.{Test, Detects}
use Rattle.flat_circuit.specs.Words.{lane, test_of}
use Rattle.region_sim.specs.declared.region.Reach.{Reach}
use Rattle.region_sim.specs.declared.region.Reach.TheVariants.{Observed, Stem}
use Rattle.block_sim.specs.Flips.{HasCome}

-- The end of following a fault on a group: an observer, with the lanes in which the fault is
-- detected there; or a signal, with the lanes in which the fault has reached it.
abbrev pub IsReached : List Statement → List Test → ℕ → Fault → ℕ → Reach → Type 0
IsReached c tests group f mask (Observed word) = (k : ℕ) → k < 128
    → Decides (lane word k) ((lane mask k ≡ true) × Detects c (test_of tests group k) f)
IsReached c tests group f mask (Stem at) = HasCome c tests group f mask at.signal at.lanes
