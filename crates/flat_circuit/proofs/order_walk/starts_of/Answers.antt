use Rattle.std.proofs.{Common.{◌<◌, All, arith, length, subst, sym}, lemmas.List.get_or_default}
use Rattle.std.proofs.lemmas.List.Elements.{All-append, All-push}
use Rattle.bench_net.specs.Scan.{names}
use Rattle.flat_circuit.proofs.{LevelOrder.order_within, order_walk.starts_of.Goals.else-is_marked}
use Rattle.flat_circuit.proofs.order_walk.starts_of.Goals.{then-is_marked+in_ok-push}
use Rattle.flat_circuit.proofs.order_walk.starts_of.Goals as goal

pub loop-place-preserved : goal.loop-place-preserved
loop-place-preserved c =
    let count = length (names c.args.circuit.now) in
    let order = c.in_level_order-order.result.now in
    let low = order_within c.args.circuit.now order c.loop-place.place
    c.in_level_order-order.ensures c.loop-place-test.true in
    elim c.if-is_marked.branch [
      | then-is_marked+in_ok-push w ↦ subst (λ v. All (λ s. s < count) v.items) (sym w.starts-is)
          (subst (All (λ s. s < count)) (sym w.in_ok-push.ensures.items)
          (All-push (λ s. s < count) c.loop-place.starts.items _ c.loop-place.invariant low))
      | else-is_marked w ↦
          subst (λ v. All (λ s. s < count) v.items) (sym w.starts-is) c.loop-place.invariant
    ]

pub returns : goal.returns
returns c =
    let circuit = c.args.circuit.now in
    let count = length (names circuit) in
    let order = c.in_level_order-order.result.now in
    let all : All (λ s. s < count) order = λ k d lt.
    let low = order_within circuit order k c.in_level_order-order.ensures lt in
    let same = get_or_default order k d 0 lt in
    omega (arith, low, same) in
    subst (All (λ s. s < count)) (sym c.in_ok-extend_from_slice.ensures.items)
    (All-append (λ s. s < count) c.loop-place.starts.items order c.loop-place.invariant all)
