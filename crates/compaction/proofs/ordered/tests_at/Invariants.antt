use Rattle.std.proofs.Common.{◌≡◌, [], take}
use Rattle.patterns.specs.Tests.{IsTestList}
use Rattle.compaction.specs.Steepest.{at_places}
use Rattle.compaction.proofs.ordered.tests_at.Given as goal

abbrev pub invariant-loop-place : goal.invariant-loop-place
invariant-loop-place l = record {
  rows : l.at.tests ≡ at_places [] l.tests.tests (take l.place-index l.places);
  list : IsTestList l.at;
  width : l.at.width ≡ l.tests.width;
}
