use Rattle.std.{proofs.Common.{◌<◌, ℕ, get_or}, specs.Prelude.map}
use Rattle.std.specs.Vec.Iter.{into_iter_items, into_iter_len}
use Rattle.flat_circuit.specs.GroupRows.{AreOwnRows, AreRowsFrom}
use Rattle.flat_circuit.proofs.fault_free.join_rows.Given as goal

abbrev pub invariant-loop-part : goal.invariant-loop-part
invariant-loop-part l = record {
  left : (k : ℕ) (d : _) → k < into_iter_len l.part-iterator
      → AreOwnRows l.circuit.arranged l.tests.tests (get_or (into_iter_items l.part-iterator) k d);
  rows : AreRowsFrom l.circuit.arranged l.tests.tests 0 (map (λ row. row.items) l.all.items);
}
