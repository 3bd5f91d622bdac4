use Rattle.std.proofs.Common.{◌≡◌, ◌++◌, ℕ, List, map}
use Rattle.fault_model.specs.Reordered.{in_order, place}
use Rattle.flat_circuit.proofs.{Flats.AreGathered, ObservedSinks.HasObserver}
use Rattle.flat_circuit.proofs.flat.add_readers.Given as goal

abbrev pub invariant-loop-sink : goal.invariant-loop-sink
invariant-loop-sink l = record {
  more : List ℕ;
  is : l.readers.items ≡ l.fn.readers.items
      ++ map (place l.placed.circuit.now (in_order l.placed.circuit.now l.placed.order.now)) more;
  gathered : AreGathered l.placed.circuit.now l.signal l.sink-items l.sink-index more;
  observer : HasObserver l.placed.circuit.now l.signal l.sink-items l.sink-index l.observed;
}
