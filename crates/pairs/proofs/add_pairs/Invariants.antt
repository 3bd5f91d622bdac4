use Rattle.std.proofs.Common.{◌≡◌}
use Rattle.pairs.specs.Pairs.{ArePairRows}
use Rattle.pairs.proofs.add_pairs.Given as goal

-- the rows of the tests so far
abbrev pub invariant-loop-test : goal.invariant-loop-test
invariant-loop-test l = record {
  rows : ArePairRows l.tests.tests l.shown.tests l.held l.from l.test l.pairs.tests;
  width : l.pairs.width ≡ l.tests.width;
}
