use Rattle.std.proofs.Common.{◌≡◌, length}
use Rattle.text_lines.specs.Rows.{without_front}
use Rattle.test_columns.proofs.line.without_front.Given as goal

abbrev pub invariant-loop-bytes : goal.invariant-loop-bytes
invariant-loop-bytes l = without_front l.bytes ≡ without_front l.fn.bytes

abbrev pub decreases-loop-bytes : goal.decreases-loop-bytes
decreases-loop-bytes l = length l.bytes
