use Rattle.std.proofs.Common.{◌≡◌, arith, length, refl, subst}
use Rattle.bench_net.specs.Scan.{names}
use Rattle.fault_model.specs.Reordered.{in_order}
use Rattle.flat_circuit.specs.{Arranged.{ArePlaces, IsArranged}, Flat.AreListsOf}
use Rattle.flat_circuit.proofs.{ArrangedSignals.count_there, Flats.flat_of}
use Rattle.flat_circuit.proofs.flat.rows_in_threads.Goals as goal

pub returns : goal.returns
returns g c =
    let circuit = c.args.circuit.now in
    let order = c.args.order.items in
    let ordered = c.requires.order in
    let there = in_order circuit order in
    let arranged : IsArranged circuit there = (order, ordered, refl) in
    let count = count_there circuit there c.signals-signals.ensures.circuit.well_formed arranged in
    let all = subst (λ o. AreListsOf (in_order circuit o) 0 (length o) c.in_ok-lists.lists)
    c.deref.ensures.value c.in_ok-lists.ensures in
    let end : length order ≡ length (names there) = omega (arith, ordered.signals.count, count) in
    record {
      ordered = ordered;
      room = c.in_ok-places.ensures.count;
      placed = subst (λ o. ArePlaces circuit (in_order circuit o) c.in_ok-places.places.items)
          c.as_slice.ensures.value c.in_ok-places.ensures.places;
      flat = flat_of there (length order) c.in_ok-lists.lists all end;
    }
