use Rattle.std.proofs.Common.{◌≡◌, take}
use Rattle.compaction.specs.Compaction.{at_marks}
use Rattle.compaction.proofs.rows.marked_numbers.Given as goal

abbrev pub invariant-loop-place : goal.invariant-loop-place
invariant-loop-place l = l.kept.items ≡ at_marks (take l.place l.marks) l.numbers
