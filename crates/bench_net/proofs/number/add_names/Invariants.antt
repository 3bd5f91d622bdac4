use Rattle.std.proofs.Common.{◌≡◌, ◌++◌, take}
use Rattle.bench_net.specs.reader.{Parsed.names_of, Entries.names_in}
use Rattle.list_lemmas.proofs.Distinct.{Distinct}
use Rattle.bench_net.proofs.number.add_names.Given as goal

abbrev pub invariant-loop-line : goal.invariant-loop-line
invariant-loop-line l =
    (names_of l.names.keys ≡ names_of l.fn.names.keys ++ names_in (take l.line-index l.stated))
    × Distinct (names_of l.names.keys)
