use Rattle.std.proofs.Common.{sym}
use Rattle.flat_circuit.proofs.CarriedSignals.{is_gate_there}
use Rattle.flat_circuit.proofs.line_signals.pin_signal.Goals as goal

pub unreachable-requires : goal.unreachable-requires
unreachable-requires c = is_gate_there c.args.circuit.now.arranged c.args.gate c.args.pin
    c.requires.named.0 c.requires.named.1 (sym c.in-None.ensures.gate)
