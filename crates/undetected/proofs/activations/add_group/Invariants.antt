use Rattle.std.{proofs.Common.{◌≡◌, List, false, length, true}, specs.Prelude.Bool}
use Rattle.bench_net.specs.Scan.{names}
use Rattle.undetected.specs.Activated.{AreAddedBefore, end_at}
use Rattle.undetected.proofs.activations.add_group.Given as goal

-- the tests of the group were added for the signals so far
abbrev pub invariant-loop-signal : goal.invariant-loop-signal
invariant-loop-signal l = record {
  zero_room : length l.at_zero ≡ length (names l.job.circuit);
  one_room : length l.at_one ≡ length (names l.job.circuit);
  zero : (start : List Bool) → AreAddedBefore l.job false start (end_at l.group 0) l.fn.at_zero
      → AreAddedBefore l.job false start (end_at l.group l.signal) l.at_zero;
  one : (start : List Bool) → AreAddedBefore l.job true start (end_at l.group 0) l.fn.at_one
      → AreAddedBefore l.job true start (end_at l.group l.signal) l.at_one;
}
