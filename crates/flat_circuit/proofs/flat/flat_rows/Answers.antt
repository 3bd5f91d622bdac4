use Rattle.std.proofs.Common.{◌≡◌, arith, length, refl, subst}
use Rattle.bench_net.specs.Scan.{names}
use Rattle.fault_model.specs.Reordered.{in_order}
use Rattle.flat_circuit.specs.{Arranged.{ArePlaces, IsArranged}, Flat.AreListsOf}
use Rattle.flat_circuit.proofs.{ArrangedSignals.count_there, Flats.flat_of}
use Rattle.flat_circuit.proofs.flat.flat_rows.Goals as goal

pub returns : goal.returns
returns c =
    let circuit = c.args.circuit.now in
    let order = c.in_ok-order.order.items in
    let ordered = c.in_ok-order.ensures in
    let there = in_order circuit order in
    let arranged : IsArranged circuit there = (order, ordered, refl) in
    let count = count_there circuit there c.signals-signals.ensures.circuit.well_formed arranged in
    let all = subst (λ o. AreListsOf (in_order circuit o) 0 c.len.result c.in_ok-lists.lists)
    c.deref.ensures.value c.in_ok-lists.ensures in
    let end : c.len.result ≡ length (names there) = omega (
      arith,
      c.len.ensures,
      c.in_ok-order.order.ok.0,
      ordered.signals.count,
      count,
    ) in
    record {
      ordered = ordered;
      room = c.in_ok-places.ensures.count;
      placed = subst (λ o. ArePlaces circuit (in_order circuit o) c.in_ok-places.places.items)
          c.as_slice.ensures.value c.in_ok-places.ensures.places;
      flat = flat_of there c.len.result c.in_ok-lists.lists all end;
    }
