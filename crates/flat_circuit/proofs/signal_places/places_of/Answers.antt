use Rattle.std.proofs.{Common.{◌≡◌, ◌∙◌, length, subst, arith}, lemmas.List.length-set}
use Rattle.flat_circuit.proofs.FlowOrder.{flow_within}
use Rattle.flat_circuit.proofs.PlaceTables.{HasPlaces, one_more, all_places}
use Rattle.flat_circuit.proofs.signal_places.places_of.Goals as goal

pub index_mut-requires : goal.index_mut-requires
index_mut-requires c =
    let count = c.requires.order.signals.count in
    let lt = flow_within c.args.circuit.now c.args.order.now c.loop-place.place c.requires.order
    (omega arith) in
    omega (arith, lt, count, c.loop-place.invariant.room)

pub loop-place-preserved : goal.loop-place-preserved
loop-place-preserved c = record {
  room = length-set c.loop-place.places.items _ c.loop-place.place ∙ c.loop-place.invariant.room;
  known = one_more c.args.circuit.now c.requires.circuit.well_formed c.args.order.now
      c.requires.order c.loop-place.places.items c.loop-place.place (omega arith)
      c.loop-place.invariant.room c.loop-place.invariant.known;
}

pub returns-clause-places : goal.returns-clause-places
returns-clause-places c =
    let order = c.args.order.now in
    let end : c.loop-place.place ≡ length order =
    omega (arith, c.loop-place-test.false, c.loop-place.auto.place-end) in
    all_places c.args.circuit.now c.requires.circuit.well_formed order c.requires.order
    c.loop-place.places.items
    (subst (HasPlaces order c.loop-place.places.items) end c.loop-place.invariant.known)

pub returns-clause-count : goal.returns-clause-count
returns-clause-count c =
    let count = c.requires.order.signals.count in
    c.loop-place.invariant.room ∙ count
