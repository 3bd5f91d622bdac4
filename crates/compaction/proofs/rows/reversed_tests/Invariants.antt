use Rattle.std.{proofs.Common.{◌≡◌, ◌<◌, ◌-◌, ℕ, length, get_or}, specs.Prelude.{Bool, List}}
use Rattle.patterns.specs.Tests.{IsTestList}
use Rattle.compaction.proofs.rows.reversed_tests.Given as goal

abbrev pub invariant-loop-place : goal.invariant-loop-place
invariant-loop-place l = record {
  count : length l.reversed.tests ≡ l.place;
  rows : (k : ℕ) (d : List Bool) → k < l.place
      → get_or l.reversed.tests k d ≡ get_or l.tests.tests (length l.tests.tests - 1 - k) d;
  list : IsTestList l.reversed;
  width : l.reversed.width ≡ l.tests.width;
}
