use Rattle.std.{proofs.Common.{◌<◌, ap, arith, length, subst, sym}, specs.Prelude.slice_index_or}
use Rattle.flat_circuit.proofs.Equations.{pins_within}
use Rattle.flat_circuit.proofs.order_walk.pins_of.Goals as goal

pub returns-in-Some : goal.returns-in-Some
returns-in-Some c = λ k d lt.
    let within = pins_within c.args.circuit.now c.args.signal c.in-Some.line.now.kind
    c.in-Some.line.now.pins.items c.requires.circuit.well_formed (sym c.in-Some.ensures)
    k d (subst (λ xs. k < length xs) c.as_slice.ensures lt) in
    let same = ap (λ xs. slice_index_or xs k d) c.as_slice.ensures in
    omega (arith, within, same)
