use Rattle.std.proofs.Common.{◌≡◌, ◌+◌, length}
use Rattle.fault_model.specs.Reordered.{in_order}
use Rattle.flat_circuit.specs.Flat.{AreRowsAt, AreStandingsAt}
use Rattle.flat_circuit.proofs.flat.lists_between.Given as goal

abbrev pub invariant-loop-place : goal.invariant-loop-place
invariant-loop-place l = record {
  count : l.from + length l.rows.items ≡ l.place;
  numbered : AreRowsAt (in_order l.circuit l.order) l.from l.pins.items
      l.readers.items l.rows.items;
  stand : l.from + length l.standings.items ≡ l.place;
  standing : AreStandingsAt (in_order l.circuit l.order) l.from l.standings.items;
}
