use Rattle.std.proofs.Common.{map}
use Rattle.blocking_pins.proofs.SignalReaders.{HaveReadersIn}
use Rattle.blocking_pins.proofs.readers.add_gate.Given as goal

abbrev pub invariant-loop-read : goal.invariant-loop-read
invariant-loop-read l = HaveReadersIn l.circuit.arranged l.place l.read-items l.read-index
    (map (λ row. row.items) l.readers)
