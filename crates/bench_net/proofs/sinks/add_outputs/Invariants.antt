use Rattle.std.proofs.Common.{◌≡◌, ◌++◌, drop}
use Rattle.bench_net.specs.{declared.Sink.TheVariants.Out, Tables.readers_from}
use Rattle.bench_net.proofs.sinks.add_outputs.Given as goal

abbrev pub invariant-loop-output : goal.invariant-loop-output
invariant-loop-output l = l.readers.items ++ readers_from Out l.output (drop l.output l.outputs)
    ≡ l.fn.readers.items ++ readers_from Out 0 l.outputs
