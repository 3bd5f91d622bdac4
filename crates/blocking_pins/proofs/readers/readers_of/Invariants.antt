use Rattle.std.proofs.Common.{map}
use Rattle.blocking_pins.specs.Effects.{HaveReadersBelow}
use Rattle.blocking_pins.proofs.readers.readers_of.Given as goal

abbrev pub invariant-loop-place : goal.invariant-loop-place
invariant-loop-place l = HaveReadersBelow l.circuit.arranged l.place
    (map (λ row. row.items) l.readers.items)
