use Rattle.std.{proofs.Common.{◌<◌, ℕ, get_or}, specs.Prelude.All}
use Rattle.std.specs.Vec.Iter.{into_iter_items, into_iter_len}
use Rattle.flat_circuit.specs.GroupRows.{AreOwnRows, HasRows}
use Rattle.flat_circuit.proofs.fault_free.in_order.Given as goal

abbrev pub invariant-loop-part : goal.invariant-loop-part
invariant-loop-part l = record {
  left : (k : ℕ) (d : _) → k < into_iter_len l.part-iterator
      → HasRows l.circuit.arranged l.tests.tests (get_or (into_iter_items l.part-iterator) k d);
  all : All (AreOwnRows l.circuit.arranged l.tests.tests) l.all.items;
}
