use Rattle.undetected.proofs.PinSignals.{gate_within, is_gate_there, pin_reads_signal}
use Rattle.undetected.proofs.PinSignals.{signal_within}
use Rattle.undetected.proofs.activations.pin_signal.Goals as goal

pub gate_of-requires : goal.gate_of-requires
gate_of-requires c = gate_within c.args.circuit.now c.args.gate c.args.pin c.requires.0 c.requires.1

pub unreachable-requires : goal.unreachable-requires
unreachable-requires c = is_gate_there c.args.circuit.now c.args.gate c.args.pin c.requires.0
    c.requires.1 c.in-None.ensures

pub bounds-deref-pin : goal.bounds-deref-pin
bounds-deref-pin c =
    rw (c.deref.ensures) (pin_reads_signal c.args.circuit.now c.args.gate c.args.pin
    c.requires.0 c.in-Some.driver.now.kind c.in-Some.driver.now.pins.items c.requires.1
    c.in-Some.ensures).0

pub returns-clause-carries : goal.returns-clause-carries
returns-clause-carries c = λ n at.
    rw (c.deref.ensures) (pin_reads_signal c.args.circuit.now c.args.gate c.args.pin n
    c.in-Some.driver.now.kind c.in-Some.driver.now.pins.items at c.in-Some.ensures).1

pub returns-clause-within : goal.returns-clause-within
returns-clause-within c = rw (
  c.deref.ensures,
  (pin_reads_signal c.args.circuit.now c.args.gate c.args.pin
      c.requires.0 c.in-Some.driver.now.kind c.in-Some.driver.now.pins.items c.requires.1
      c.in-Some.ensures).1,
) (signal_within c.args.circuit.now c.requires.0 c.requires.2)
