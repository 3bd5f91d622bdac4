use Rattle.std.{proofs.Common.{◌≡◌, length, map, []}, specs.Prelude.All}
use Rattle.blocking_pins.proofs.readers.no_readers.Given as goal

abbrev pub invariant-loop-place : goal.invariant-loop-place
invariant-loop-place l = record {
  count : length l.readers.items ≡ l._place;
  empty : All (λ row. row ≡ []) (map (λ row. row.items) l.readers.items);
}
