use Rattle.std.proofs.Common.{map}
use Rattle.bench_net.specs.{declared.Sink.TheVariants.Out, Tables.{reader_at, signal_read}}
use Rattle.bench_net.proofs.KeyRows.{Placing}
use Rattle.bench_net.proofs.sinks.placed_sinks.Given as goal

abbrev pub invariant-loop-reader : goal.invariant-loop-reader
invariant-loop-reader l = Placing (λ place. (reader_at l.readers place).sink) (Out 0)
    (map signal_read l.readers) l.fn.next.items l.reader-index l.next.items l.sinks.items
