use Rattle.test_columns.proofs.FirstLine.{IsBehind}
use Rattle.test_columns.proofs.front.read_front.Given as goal

-- the lines so far have nothing but blanks, and the file has the rest left
abbrev pub invariant-loop : goal.invariant-loop
invariant-loop g l =
    IsBehind (g.R.Read.remaining l.fn.file) (g.R.Read.remaining l.file) l.front.items
