use Rattle.std.proofs.Common.{◌≡◌, ◌++◌, List, length}
use Rattle.blocking_pins.{specs.declared.gate_pins.GatePin.GatePin, proofs.PinLists.ArePinsBelow}
use Rattle.blocking_pins.proofs.gate_pins.add_pins.Given as goal

abbrev pub invariant-loop-pin : goal.invariant-loop-pin
invariant-loop-pin l = (more : List GatePin) × ArePinsBelow l.signal l.pin more
    × (l.pins.items ≡ l.initial.pins.items ++ more)
