use Rattle.blocking_pins.specs.Effects.{AreGatePins}
use Rattle.blocking_pins.proofs.gate_pins.GatePins.of.Given as goal

abbrev pub invariant-loop-signal : goal.invariant-loop-signal
invariant-loop-signal l = AreGatePins l.flat.statements l.flat.arranged l.signal l.pins.items
    l.starts.items
