use Rattle.std.{proofs.Common.{◌≡◌, ◌<◌, ◌+◌, ℕ, length}, specs.Prelude.slice_get}
use Rattle.patterns.specs.Tests.{IsTestList}
use Rattle.compaction.proofs.rows.tests_between.Given as goal

-- the tests so far
abbrev pub invariant-loop-test : goal.invariant-loop-test
invariant-loop-test l = record {
  count : l.start + length l.some.tests ≡ l.test;
  each : (k : ℕ) → k < length l.some.tests
      → slice_get l.some.tests k ≡ slice_get l.tests.tests (l.start + k);
  list : IsTestList l.some;
  width : l.some.width ≡ l.tests.width;
}
