use Rattle.std.proofs.Common.{◌≡◌, false, length, true}
use Rattle.bench_net.specs.Scan.{names}
use Rattle.undetected.specs.Activated.{AreAddedBefore, end_at}
use Rattle.undetected.proofs.activations.add_groups.Given as goal

-- the tests of the groups so far were added
abbrev pub invariant-loop-group : goal.invariant-loop-group
invariant-loop-group l = record {
  zero_room : length l.at_zero ≡ length (names l.job.circuit);
  one_room : length l.at_one ≡ length (names l.job.circuit);
  zero : AreAddedBefore l.job false l.fn.at_zero (end_at l.group 0) l.at_zero;
  one : AreAddedBefore l.job true l.fn.at_one (end_at l.group 0) l.at_one;
}
