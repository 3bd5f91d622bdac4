use Rattle.std.proofs.Common.{◌≡◌, ◌≤◌, length}
use Rattle.block_sim.specs.Parts.{with_tests}
use Rattle.compaction.specs.Turns.{AreLastFrom}
use Rattle.compaction.proofs.lasting.lasting_tests.Given as goal

abbrev pub invariant-loop-end : goal.invariant-loop-end
invariant-loop-end g l = record {
  within : l.end ≤ length l.tests.tests;
  size : 2 ≤ l.size;
  job : l.run.whole ≡ with_tests l.fn.run.whole l.run.whole.tests;
  last : AreLastFrom (with_tests l.fn.run.whole l.tests) l.end l.open.items l.marks.items;
}

abbrev pub decreases-loop-end : goal.decreases-loop-end
decreases-loop-end g l = l.end
