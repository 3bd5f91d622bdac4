use Rattle.std.{proofs.Common.{◌≡◌, ◌++◌, map, take}, specs.Prelude.slice_index_or}
use Rattle.flat_circuit.proofs.flat.push_places.Given as goal

abbrev pub invariant-loop-signal : goal.invariant-loop-signal
invariant-loop-signal l = l.pins.items ≡ l.fn.pins.items
    ++ map (λ signal. slice_index_or l.places signal 0) (take l.signal-index l.signals)
