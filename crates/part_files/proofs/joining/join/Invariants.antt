use Rattle.part_files.proofs.JoinedParts.{AreJoinedTo}
use Rattle.part_files.proofs.joining.join.Given as goal

abbrev pub invariant-loop-place : goal.invariant-loop-place
invariant-loop-place l = AreJoinedTo l.fn.verdicts l.others l.verdicts l.place
