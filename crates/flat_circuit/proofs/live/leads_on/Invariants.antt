use Rattle.flat_circuit.proofs.LiveSignals.{AreDead}
use Rattle.flat_circuit.proofs.live.leads_on.Given as goal

abbrev pub invariant-loop-sink : goal.invariant-loop-sink
invariant-loop-sink l = AreDead l.circuit l.sink-items l.sink-index
