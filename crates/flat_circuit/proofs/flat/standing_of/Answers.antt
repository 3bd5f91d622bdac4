use Rattle.std.proofs.Common.{refl}
use Rattle.fault_model.specs.Reordered.{in_order}
use Rattle.flat_circuit.{specs.Arranged.IsArranged, proofs.ArrangedSignals.reordered}
use Rattle.flat_circuit.proofs.ReorderedReaders.{same_readers}
use Rattle.flat_circuit.proofs.flat.standing_of.Goals as goal

pub returns : goal.returns
returns c =
    let circuit = c.args.placed.circuit.now in
    let well = c.requires.placed.circuit.well_formed in
    let order = c.args.placed.order.now in
    let there = in_order circuit order in
    let arranged : IsArranged circuit there = (order, c.requires.placed.ordered, refl) in
    let s = c.args.signal in
    let own = c.requires.placed.alive s c.requires.signal in
    let live = (same_readers circuit there well (reordered circuit there well arranged)).live s in
    record { lone = c.lone_place.ensures; live = (λ on. live.0 (own.0 on), λ l. own.1 (live.1 l)) }
