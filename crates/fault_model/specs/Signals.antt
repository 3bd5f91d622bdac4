-- The signals to which a fault list may be restricted.
use Rattle.std.specs.Prelude.{◌≡◌, ◌<◌, ℕ, List, length}
use Rattle.bench_net.specs.Scan.{names}
use Rattle.bench_net.specs.Statement.{Statement}
use Rattle.fault_model.specs.Fault.{FaultList, faults}

-- the number of a signal is in range: the circuit whose faults these are has such a signal
abbrev pub IsSignalOf : FaultList → ℕ → Type 0
IsSignalOf list signal = (c : List Statement) × (list.list ≡ faults list.model c)
    × (signal < length (names c))
