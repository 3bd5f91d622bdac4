use Rattle.std.{proofs.Common.{◌≡◌, length, map}, specs.Prelude.All}
use Rattle.blocking_pins.proofs.tally.Tally.new.Given as goal

abbrev pub invariant-loop-group : goal.invariant-loop-group
invariant-loop-group l = record {
  count : length l.rows.items ≡ l._group;
  rows : All (λ row. (length row ≡ l.pins) × All (λ word. word ≡ 0) row)
      (map (λ row. row.items) l.rows.items);
}
