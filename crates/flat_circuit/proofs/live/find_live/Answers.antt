use Rattle.std.proofs.{Common.{◌≡◌, ◌-◌, ◌∙◌, arith}, lemmas.List.length-set}
use Rattle.flat_circuit.proofs.LevelOrder.{order_within}
use Rattle.flat_circuit.proofs.LiveSignals.{live_all, live_more, readers_known}
use Rattle.flat_circuit.proofs.live.find_live.Goals as goal

pub leads_on-is_live-requires-clause-signal : goal.leads_on-is_live-requires-clause-signal
leads_on-is_live-requires-clause-signal c =
    order_within c.args.circuit.now c.in_level_order-order.result.now _
    c.in_level_order-order.ensures (omega arith)

pub leads_on-is_live-requires-clause-readers : goal.leads_on-is_live-requires-clause-readers
leads_on-is_live-requires-clause-readers c = λ gate reads.
    readers_known c.args.circuit.now c.requires.circuit.well_formed
    c.in_level_order-order.result.now c.in_level_order-order.ensures c.loop-place.live
    c.loop-place.place gate (omega arith) (omega arith) c.loop-place.invariant.known reads

pub bounds-live-signal : goal.bounds-live-signal
bounds-live-signal c =
    let lt = order_within c.args.circuit.now c.in_level_order-order.result.now
    (c.loop-place.place - 1) c.in_level_order-order.ensures (omega arith) in
    omega (arith, lt, c.loop-place.invariant.room)

pub loop-place-preserved : goal.loop-place-preserved
loop-place-preserved c = record {
  room = length-set c.loop-place.live _ c.leads_on-is_live.result ∙ c.loop-place.invariant.room;
  known = live_more c.args.circuit.now c.requires.circuit.well_formed
      c.in_level_order-order.result.now c.in_level_order-order.ensures c.loop-place.live
      c.loop-place.place
      c.leads_on-is_live.result (omega arith) (omega arith) c.loop-place.invariant.room
      c.loop-place.invariant.known c.leads_on-is_live.ensures;
}

pub returns-clause-live : goal.returns-clause-live
returns-clause-live c =
    let none : c.loop-place.place ≡ 0 = omega (arith, c.loop-place-test.false) in
    live_all c.args.circuit.now c.requires.circuit.well_formed c.in_level_order-order.result.now
    c.in_level_order-order.ensures c.loop-place.live
    (λ i low inside. c.loop-place.invariant.known i (omega (arith, none)) inside)
