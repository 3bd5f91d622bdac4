use Rattle.std.{proofs.Common.{◌<◌, ℕ}, specs.Bool.Decides}
use Rattle.flat_circuit.specs.{Stuck.stuck_fault, Words.lane}
use Rattle.blocking_pins.proofs.Entered.{DiffersBelow}
use Rattle.blocking_pins.proofs.blocked.entered.Given as goal

abbrev pub invariant-loop-pin : goal.invariant-loop-pin
invariant-loop-pin l = (k : ℕ) → k < 128 → Decides (lane l.entered k)
    (DiffersBelow (stuck_fault l.gate.fault) l.gate.good.now l.gate.delta.now l.gate.place
    l.pins k l.pin)
