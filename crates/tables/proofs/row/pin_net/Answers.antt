use Rattle.std.proofs.Common.{◌∙◌, sym}
use Rattle.tables.proofs.Nets.{gate_within, is_gate_there, pin_reads_signal, signal_named}
use Rattle.tables.proofs.row.pin_net.Goals as goal

pub gate_of-requires : goal.gate_of-requires
gate_of-requires c = gate_within c.args.circuit.now c.args.gate c.args.pin c.requires.0 c.requires.1

pub unreachable-requires : goal.unreachable-requires
unreachable-requires c = is_gate_there c.args.circuit.now c.args.gate c.args.pin c.requires.0
    c.requires.1 c.in-None.ensures

pub bounds-deref-pin : goal.bounds-deref-pin
bounds-deref-pin c =
    rw (c.deref.ensures) (pin_reads_signal c.args.circuit.now c.args.gate c.args.pin
    c.requires.0 c.in-Some.driver.now.kind c.in-Some.driver.now.pins.items c.requires.1
    c.in-Some.ensures).0

pub name_of-requires : goal.name_of-requires
name_of-requires c =
    let at = pin_reads_signal c.args.circuit.now c.args.gate c.args.pin c.requires.0
    c.in-Some.driver.now.kind c.in-Some.driver.now.pins.items c.requires.1 c.in-Some.ensures in
    rw (c.deref.ensures, at.1) (signal_named c.args.circuit.now c.requires.0 c.requires.2).0

pub returns : goal.returns
returns c =
    let at = pin_reads_signal c.args.circuit.now c.args.gate c.args.pin c.requires.0
    c.in-Some.driver.now.kind c.in-Some.driver.now.pins.items c.requires.1 c.in-Some.ensures in
    let read = rw (c.deref.ensures, at.1) at c.name_of.ensures in
    c.requires.1 ∙ sym (read ∙ (signal_named c.args.circuit.now c.requires.0 c.requires.2).1)
