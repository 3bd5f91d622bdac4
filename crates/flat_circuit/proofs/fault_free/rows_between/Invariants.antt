use Rattle.std.{proofs.Common.{◌≡◌, ◌*◌, length}, specs.Prelude.map}
use Rattle.flat_circuit.specs.GroupRows.{AreRowsFrom}
use Rattle.flat_circuit.proofs.fault_free.rows_between.Given as goal

abbrev pub invariant-loop-four : goal.invariant-loop-four
invariant-loop-four l = record {
  count : length (map (λ row. row.items) l.rows.items) ≡ 4 * l.four;
  rows : AreRowsFrom l.circuit.arranged l.tests.tests l.first (map (λ row. row.items) l.rows.items);
}
