use Rattle.std.proofs.Common.{◌≤◌, map}
use Rattle.blocking_pins.specs.{Blocking.HaveCount, Counting.HasBit}
use Rattle.blocking_pins.proofs.pins.tests_of.Given as goal

abbrev pub invariant-loop-test : goal.invariant-loop-test
invariant-loop-test l = record {
  count : HaveCount (HasBit (map (λ row. row.items) l.tally.rows.items) l.at) l.test l.tests;
  few : l.tests ≤ l.test;
}
