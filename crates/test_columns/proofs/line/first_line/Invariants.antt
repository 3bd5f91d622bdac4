use Rattle.std.{proofs.Common.{◌≡◌, [], filter, length}, specs.List.enumerate_from}
use Rattle.test_columns.{specs.Columns.is_written, proofs.FirstLine.given}
use Rattle.test_columns.proofs.line.first_line.Given as goal

-- the lines so far are counted, and none has more than blanks
abbrev pub invariant-loop-line : goal.invariant-loop-line
invariant-loop-line l = (l.number ≡ length l.yielded)
    × (filter (λ at. is_written at.1) (enumerate_from 1 (given l.yielded)) ≡ [])
