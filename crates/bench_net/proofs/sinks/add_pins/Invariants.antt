use Rattle.std.proofs.Common.{◌≡◌, ◌++◌, drop}
use Rattle.bench_net.specs.{declared.Sink.TheVariants.Pin, Tables.readers_from}
use Rattle.bench_net.proofs.sinks.add_pins.Given as goal

abbrev pub invariant-loop-pin : goal.invariant-loop-pin
invariant-loop-pin l = l.readers.items ++ readers_from (Pin l.gate) l.pin (drop l.pin l.pins)
    ≡ l.fn.readers.items ++ readers_from (Pin l.gate) 0 l.pins
