use Rattle.std.proofs.Common.{◌≡◌, length, take}
use Rattle.bench_net.specs.reader.Entries.{names_in}
use Rattle.bench_threads.specs.Stretches.{joined}
use Rattle.bench_threads.proofs.numbering.names_before.Given as goal

abbrev pub invariant-loop-stretch : goal.invariant-loop-stretch
invariant-loop-stretch l = l.count ≡ length (names_in (joined (take l.stretch-index l.stretches)))
