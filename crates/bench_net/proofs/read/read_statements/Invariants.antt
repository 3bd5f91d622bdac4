use Rattle.std.proofs.Common.{◌≡◌, ◌+◌, length}
use Rattle.bench_net.{specs.reader.Entries.{entries_of, AreStatedFrom}, proofs.NumberedLines.given}
use Rattle.bench_net.proofs.read.read_statements.Given as goal

abbrev pub invariant-loop-line : goal.invariant-loop-line
invariant-loop-line l = (l.number ≡ l.before + length l.yielded)
    × AreStatedFrom (l.before + 1) (given l.yielded) (entries_of l.stated.items)
