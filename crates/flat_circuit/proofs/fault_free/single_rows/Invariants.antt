use Rattle.std.{proofs.Common.{◌≡◌, ◌+◌, length}, specs.Prelude.map}
use Rattle.flat_circuit.specs.GroupRows.{AreRowsFrom}
use Rattle.flat_circuit.proofs.fault_free.single_rows.Given as goal

abbrev pub invariant-loop-group : goal.invariant-loop-group
invariant-loop-group l = record {
  count : l.first + length (map (λ row. row.items) l.rows.items) ≡ l.group;
  rows : AreRowsFrom l.circuit.arranged l.tests.tests l.first (map (λ row. row.items) l.rows.items);
}
