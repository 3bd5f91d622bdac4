use Rattle.std.proofs.Common.{◌≡◌, ◌+◌, length, take}
use Rattle.bench_net.specs.reader.{Parsed.names_of, Entries.{names_in, AreNumberedLines}}
use Rattle.bench_net.proofs.number.number_lines.Given as goal

abbrev pub invariant-loop-line : goal.invariant-loop-line
invariant-loop-line l =
    AreNumberedLines (names_of l.names.keys) (take l.line-index l.stated) l.lines.items
    × (l.next ≡ l.first + length (names_in (take l.line-index l.stated)))
