use Rattle.flat_circuit.specs.Stuck.{stuck_fault}
use Rattle.blocking_pins.{specs.Counting.AreAdded, proofs.GroupBlocks.ReachedBelow}
use Rattle.blocking_pins.proofs.counting.add_reached.Given as goal

abbrev pub invariant-loop-place : goal.invariant-loop-place
invariant-loop-place l = AreAdded l.number (ReachedBelow l.view.circuit.now.arranged
    (stuck_fault l.fault) l.view.good.now l.delta l.view.lanes l.pins.starts.items l.reached
    l.place-index) l.initial.counts l.counts l.initial.row l.row
