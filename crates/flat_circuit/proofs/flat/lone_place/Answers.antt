use Rattle.std.{proofs.Common.{◌∙◌, ap, arith, refl, sym}, specs.Prelude.{Some, option_map}}
use Rattle.fault_model.specs.Reordered.{in_order, place}
use Rattle.flat_circuit.proofs.{ArrangedSignals.reordered, ReorderedReaders.same_readers}
use Rattle.flat_circuit.proofs.Stems.{lone_within}
use Rattle.flat_circuit.proofs.flat.lone_place.Goals as goal

pub bounds-placed-gate : goal.bounds-placed-gate
bounds-placed-gate c =
    let lt = lone_within c.args.placed.circuit.now c.requires.placed.circuit.well_formed
    c.args.signal c.in-Some.gate (sym c.in-Some.ensures) in
    omega (arith, lt, c.requires.placed.room)

pub returns-in-Some : goal.returns-in-Some
returns-in-Some c =
    let circuit = c.args.placed.circuit.now in
    let well = c.requires.placed.circuit.well_formed in
    let order = c.args.placed.order.now in
    let there = in_order circuit order in
    let lt = lone_within circuit well c.args.signal c.in-Some.gate (sym c.in-Some.ensures) in
    ap Some (c.requires.placed.placed c.in-Some.gate lt)
    ∙ (ap (option_map (place circuit there)) c.in-Some.ensures
    ∙ sym ((same_readers circuit there well
    (reordered circuit there well (order, c.requires.placed.ordered, refl))).lone c.args.signal))

pub returns-in-None : goal.returns-in-None
returns-in-None c =
    let circuit = c.args.placed.circuit.now in
    let well = c.requires.placed.circuit.well_formed in
    let order = c.args.placed.order.now in
    let there = in_order circuit order in
    ap (option_map (place circuit there)) c.in-None.ensures ∙ sym ((same_readers circuit there well
    (reordered circuit there well (order, c.requires.placed.ordered, refl))).lone c.args.signal)
