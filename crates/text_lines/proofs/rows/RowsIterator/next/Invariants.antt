use Rattle.std.proofs.Common.{◌≡◌, length}
use Rattle.text_lines.specs.Rows.{rows_from}
use Rattle.text_lines.proofs.rows.RowsIterator.next.Given as goal

abbrev pub invariant-loop-line : goal.invariant-loop-line
invariant-loop-line l =
    rows_from l.self.line l.self.text.now ≡ rows_from l.fn.self.line l.fn.self.text.now

abbrev pub decreases-loop-line : goal.decreases-loop-line
decreases-loop-line l = length l.self.text.now
