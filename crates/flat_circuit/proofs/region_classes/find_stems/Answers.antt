use Rattle.std.proofs.{Common.{◌≡◌, ◌-◌, ◌∙◌, arith}, lemmas.List.length-set}
use Rattle.flat_circuit.proofs.LevelOrder.{order_within}
use Rattle.flat_circuit.proofs.Stems.{reader_known, stems_all, stems_more}
use Rattle.flat_circuit.proofs.region_classes.find_stems.Goals as goal

pub next_stem-stem-requires-clause-signal : goal.next_stem-stem-requires-clause-signal
next_stem-stem-requires-clause-signal c =
    let order = c.in_level_order-order.result.now in
    let is = c.in_level_order-order.ensures in
    order_within c.args.circuit.now order _ is (omega arith)

pub next_stem-stem-requires-clause-reader : goal.next_stem-stem-requires-clause-reader
next_stem-stem-requires-clause-reader c = λ gate h.
    let order = c.in_level_order-order.result.now in
    let is = c.in_level_order-order.ensures in
    reader_known c.args.circuit.now c.requires.circuit.well_formed order is c.loop-place.stems
    c.loop-place.place gate (omega arith) (omega arith) c.loop-place.invariant.known h

pub bounds-stems-signal : goal.bounds-stems-signal
bounds-stems-signal c =
    let order = c.in_level_order-order.result.now in
    let is = c.in_level_order-order.ensures in
    let lt = order_within c.args.circuit.now order (c.loop-place.place - 1) is (omega arith) in
    omega (arith, lt, c.loop-place.invariant.room)

pub loop-place-preserved : goal.loop-place-preserved
loop-place-preserved c =
    let order = c.in_level_order-order.result.now in
    let is = c.in_level_order-order.ensures in
    record {
      room = length-set c.loop-place.stems _ c.next_stem-stem.result ∙ c.loop-place.invariant.room;
      known = stems_more c.args.circuit.now c.requires.circuit.well_formed order is
          c.loop-place.stems c.loop-place.place c.next_stem-stem.result (omega arith) (omega arith)
          c.loop-place.invariant.room c.loop-place.invariant.known c.next_stem-stem.ensures.within
          c.next_stem-stem.ensures.stem;
    }

pub returns : goal.returns
returns c =
    let order = c.in_level_order-order.result.now in
    let is = c.in_level_order-order.ensures in
    let none : c.loop-place.place ≡ 0 = omega (arith, c.loop-place-test.false) in
    stems_all c.args.circuit.now c.requires.circuit.well_formed order is c.loop-place.stems
    (λ i low inside. c.loop-place.invariant.known i (omega (arith, none)) inside)
