use Rattle.std.proofs.{Common.{◌<◌, ◌+◌, ◌∙◌, arith, length}, lemmas.List.length-set}
use Rattle.std.proofs.lemmas.List.Elements.{All-set, All-weaker}
use Rattle.bench_net.specs.Scan.{names}
use Rattle.flat_circuit.proofs.{LevelOrder.order_within, Keys.{keys_all, keys_more}}
use Rattle.flat_circuit.proofs.signal_order.raise_keys.Goals as goal

pub key_of-key-requires-clause-signal : goal.key_of-key-requires-clause-signal
key_of-key-requires-clause-signal c =
    order_within c.args.circuit.now c.in_level_order-order.result.now c.loop-place.place
    c.in_level_order-order.ensures (omega arith)

pub bounds-keys-signal : goal.bounds-keys-signal
bounds-keys-signal c =
    let lt = order_within c.args.circuit.now c.in_level_order-order.result.now c.loop-place.place
    c.in_level_order-order.ensures (omega arith) in
    omega (arith, lt, c.loop-place.invariant.room)

pub loop-place-preserved : goal.loop-place-preserved
loop-place-preserved c =
    let place = c.loop-place.place in
    let keys = c.loop-place.keys in
    let key = c.key_of-key.result in
    let count = length (names c.args.circuit.now) in
    let least = c.key_of-key.ensures.low (count + place + 1) (omega arith)
    c.loop-place.invariant.low in record {
      room = length-set keys _ key ∙ c.loop-place.invariant.room;
      low = All-set (λ x. x < count + (place + 1) + 1) keys _ key (omega (arith, least))
          (All-weaker (λ x. x < count + place + 1) (λ x. x < count + (place + 1) + 1)
          (λ x lt. omega (arith, lt)) keys c.loop-place.invariant.low);
      known = keys_more c.args.circuit.now c.requires.circuit.well_formed
          c.in_level_order-order.result.now c.in_level_order-order.ensures keys place key
          (omega arith) c.loop-place.invariant.room c.loop-place.invariant.known
          c.key_of-key.ensures.key;
    }

pub returns-clause-keys : goal.returns-clause-keys
returns-clause-keys c =
    keys_all c.args.circuit.now c.requires.circuit.well_formed c.in_level_order-order.result.now
    c.in_level_order-order.ensures c.loop-place.keys c.loop-place.place c.loop-place-test.false
    c.loop-place.invariant.known
