use Rattle.std.proofs.Common.{◌≡◌, ◌++◌, ℕ, List, length, Some, slice_get}
use Rattle.flat_circuit.specs.{declared.flat.SignalRow.SignalRow, Flat.IsMoved}
use Rattle.flat_circuit.proofs.flat.push_moved.Given as goal

abbrev pub invariant-loop-row : goal.invariant-loop-row
invariant-loop-row l = record {
  moved : List SignalRow;
  is : l.rows.items ≡ l.fn.rows.items ++ moved;
  count : length moved ≡ l.row-index;
  each : (i : ℕ) (row : SignalRow) → slice_get moved i ≡ Some row
      → (before : SignalRow) × (slice_get l.next i ≡ Some before)
      × IsMoved l.pins l.readers before row;
}
