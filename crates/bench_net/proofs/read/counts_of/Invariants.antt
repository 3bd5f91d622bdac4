use Rattle.std.proofs.Common.{◌≡◌, length, take, min}
use Rattle.bench_net.specs.reader.Entries.{names_in, reads_in}
use Rattle.bench_net.proofs.read.counts_of.Given as goal

abbrev pub invariant-loop-line : goal.invariant-loop-line
invariant-loop-line l =
    (l.signals ≡ min (length (names_in (take l.line-index l.stated))) 18446744073709551615)
    × (l.sinks ≡ min (length (reads_in (take l.line-index l.stated))) 18446744073709551615)
