use Rattle.std.proofs.{Common.{◌≡◌, ◌∙◌, arith, length, subst}, lemmas.List.with_items_is}
use Rattle.bench_net.specs.Scan.{names}
use Rattle.counting_sort.specs.SortedPlaces.{AreSortedPlaces}
use Rattle.flat_circuit.proofs.SortedKeys.{sorted_flow}
use Rattle.flat_circuit.proofs.signal_order.flow_order.Goals as goal

pub returns : goal.returns
returns c =
    let circuit = c.args.circuit.now in
    let keys = c.raise_keys.new.keys in
    let order = c.in_ok-sorted.sorted.places.items in
    let long : length keys ≡ length (names circuit) = omega (
      arith,
      c.raise_keys.ensures.room,
      c.deref_mut.ensures.len,
      c.in_ok-keys.ensures.len,
      c.signals-signals.ensures.count,
    ) in
    let whole : length keys ≡ c.in_ok-keys.keys.len =
    omega (arith, c.raise_keys.ensures.room, c.deref_mut.ensures.len) in
    let same : c.deref-2.result.now ≡ keys = c.deref-2.ensures.value
    ∙ with_items_is c.in_ok-keys.keys keys whole in
    sorted_flow circuit keys order long c.raise_keys.ensures.keys
    (subst (λ l. AreSortedPlaces l order) same c.in_ok-sorted.ensures.places)
