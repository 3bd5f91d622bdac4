use Rattle.std.proofs.Common.{◌≡◌, take}
use Rattle.patterns.specs.Tests.{IsTestList}
use Rattle.compaction.specs.Compaction.{at_marks}
use Rattle.compaction.proofs.rows.marked_tests.Given as goal

abbrev pub invariant-loop-test : goal.invariant-loop-test
invariant-loop-test l = record {
  rows : l.kept.tests ≡ at_marks (take l.test l.marks) l.tests.tests;
  list : IsTestList l.kept;
  width : l.kept.width ≡ l.tests.width;
}
