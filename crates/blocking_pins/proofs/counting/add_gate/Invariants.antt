use Rattle.std.proofs.Common.{◌≡◌, ◌<◌, ◌+◌, ℕ, true}
use Rattle.flat_circuit.specs.{Stuck.stuck_fault, Words.lane}
use Rattle.blocking_pins.{specs.Counting.AreAdded, proofs.GateStops.StopsBelow}
use Rattle.blocking_pins.proofs.counting.add_gate.Given as goal

abbrev pub invariant-loop-pin : goal.invariant-loop-pin
invariant-loop-pin l = AreAdded l.number (StopsBelow l.circuit.arranged (stuck_fault l.gate.fault)
    l.gate.good.now l.gate.delta.now l.gate.place l.lanes l.start l.pin)
    l.initial.counts l.counts l.initial.row l.row
