use Rattle.std.proofs.Common.{◌≡◌, length}
use Rattle.text_lines.specs.Rows.{without_back}
use Rattle.text_lines.proofs.lines.without_back.Given as goal

abbrev pub invariant-loop-bytes : goal.invariant-loop-bytes
invariant-loop-bytes l = without_back l.bytes ≡ without_back l.fn.bytes

abbrev pub decreases-loop-bytes : goal.decreases-loop-bytes
decreases-loop-bytes l = length l.bytes
