use Rattle.std.proofs.Common.{◌≡◌, ◌+◌, ◌++◌, ◌∷◌, [], ap, arith, refl, subst, sym, length}
use Rattle.std.{specs.Prelude.slice_index_or, proofs.lemmas.List.length_push}
use Rattle.fault_model.specs.Reordered.{in_order, place}
use Rattle.flat_circuit.specs.Flat.{AreRowsAt, AreStandingsAt, IsRow, IsStanding}
use Rattle.flat_circuit.{specs.Arranged.IsArranged, proofs.Flats.{rows_with, standings_with}}
use Rattle.flat_circuit.proofs.{FlowOrder.flow_within, ArrangedSignals.at_order}
use Rattle.flat_circuit.proofs.flat.lists_between.Goals as goal

pub add_row-requires-clause-signal : goal.add_row-requires-clause-signal
add_row-requires-clause-signal c =
    let lt = c.loop-place-test.true in
    flow_within c.args.circuit.now c.args.order.now c.loop-place.place c.requires.placed.ordered
    (omega (arith, lt, c.requires.end))

pub standing_of-requires-clause-signal : goal.standing_of-requires-clause-signal
standing_of-requires-clause-signal c =
    let lt = c.loop-place-test.true in
    flow_within c.args.circuit.now c.args.order.now c.loop-place.place c.requires.placed.ordered
    (omega (arith, lt, c.requires.end))

pub loop-place-preserved : goal.loop-place-preserved
loop-place-preserved c =
    let circuit = c.args.circuit.now in
    let order = c.args.order.now in
    let there = in_order circuit order in
    let from = c.args.from in
    let arranged : IsArranged circuit there = (order, c.requires.placed.ordered, refl) in
    let at = c.loop-place.place in
    let lt = c.loop-place-test.true in
    let is : place circuit there (slice_index_or order at 0) ≡ at =
    at_order circuit there c.signals-signals.ensures.circuit.well_formed arranged at
    (omega (arith, lt, c.requires.end)) in
    let rows = c.loop-place.rows.items in
    let row = c.in_ok-row.row in
    let standings = c.loop-place.standings.items in
    let standing = c.standing_of.result in
    let more : length (rows ++ row ∷ []) ≡ length rows + 1 = length_push rows row in
    let further : length (standings ++ standing ∷ []) ≡ length standings + 1 =
    length_push standings standing in
    let pushed = ap length c.in_ok-push.ensures.items in
    let pushed_too = ap length c.in_ok-push-2.ensures.items in
    record {
      count = omega (arith, pushed, more, c.loop-place.invariant.count);
      numbered = subst (AreRowsAt there from c.add_row.new.pins.items c.add_row.new.readers.items)
          (sym c.in_ok-push.ensures.items)
          (rows_with there from c.loop-place.pins.items c.add_row.new.pins.items
          c.loop-place.readers.items c.add_row.new.readers.items rows at row
          c.loop-place.invariant.count
          c.loop-place.invariant.numbered c.in_ok-row.ensures.pins c.in_ok-row.ensures.readers
          (subst (λ s. IsRow there c.add_row.new.pins.items c.add_row.new.readers.items s row) is
          c.in_ok-row.ensures.row));
      stand = omega (arith, pushed_too, further, c.loop-place.invariant.stand);
      standing = subst (AreStandingsAt there from) (sym c.in_ok-push-2.ensures.items)
          (standings_with there from standings at standing c.loop-place.invariant.stand
          c.loop-place.invariant.standing
          (subst (λ s. IsStanding there s standing) is c.standing_of.ensures));
    }

pub returns : goal.returns
returns c =
    let test = c.loop-place-test.false in
    let low = c.loop-place.auto.place-end in
    record {
      count = omega (arith, test, low, c.loop-place.invariant.count, c.requires.order);
      numbered = c.loop-place.invariant.numbered;
      stand = omega (arith, test, low, c.loop-place.invariant.stand, c.requires.order);
      standing = c.loop-place.invariant.standing;
    }
