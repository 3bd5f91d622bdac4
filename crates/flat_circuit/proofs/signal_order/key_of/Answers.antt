use Rattle.std.proofs.Common.{◌<◌, ap, arith, length, subst, sym}
use Rattle.std.specs.Prelude.{Contains, slice_index_or}
use Rattle.flat_circuit.proofs.{Equations.pins_within, Keys.{gate_key, source_key}}
use Rattle.flat_circuit.proofs.signal_order.key_of.Goals as goal

pub key_above-requires-clause-pins : goal.key_above-requires-clause-pins
key_above-requires-clause-pins c = λ k d lt.
    let within = pins_within c.args.circuit.now c.args.signal c.in-Some.line.now.kind
    c.in-Some.line.now.pins.items c.requires.circuit.well_formed (sym c.in-Some.ensures)
    k d (subst (λ xs. k < length xs) c.as_slice.ensures lt) in
    let same = ap (λ xs. slice_index_or xs k d) c.as_slice.ensures in
    omega (arith, within, same, c.requires.room)

pub returns-in-Some-clause-key : goal.returns-in-Some-clause-key
returns-in-Some-clause-key c =
    gate_key c.args.circuit.now c.args.signal c.requires.circuit.well_formed c.args.keys.now
    c.key_above.result c.in-Some.line.now.kind c.in-Some.line.now.pins.items (sym c.in-Some.ensures)
    (λ pin has. c.key_above.ensures.above pin
    (subst (λ xs. Contains xs pin) (sym c.as_slice.ensures) has))

pub returns-in-None-clause-key : goal.returns-in-None-clause-key
returns-in-None-clause-key c =
    source_key c.args.circuit.now c.args.signal c.requires.circuit.well_formed c.args.keys.now
    (sym c.in-None.ensures)
