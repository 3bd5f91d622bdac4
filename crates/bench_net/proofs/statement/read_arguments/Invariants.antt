use Rattle.std.{proofs.Common.{◌≡◌, ◌++◌, length}, specs.Prelude.option_map}
use Rattle.bench_net.specs.reader.Parsed.{names_of, args_in}
use Rattle.bench_net.proofs.statement.read_arguments.Given as goal

abbrev pub invariant-loop-name : goal.invariant-loop-name
invariant-loop-name l =
    args_in l.bytes ≡ option_map (λ more. names_of l.arguments.items ++ more) (args_in l.rest)

abbrev pub decreases-loop-name : goal.decreases-loop-name
decreases-loop-name l = length l.rest
