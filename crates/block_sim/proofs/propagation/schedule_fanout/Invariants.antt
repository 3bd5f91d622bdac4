use Rattle.std.proofs.Common.{◌≡◌, length}
use Rattle.block_sim.proofs.ScheduledGates.{HasScheduled}
use Rattle.block_sim.proofs.propagation.schedule_fanout.Given as goal

abbrev pub invariant-loop-reader : goal.invariant-loop-reader
invariant-loop-reader l = record {
  gates : length l.waiting ≡ length l.initial.waiting;
  scheduled : HasScheduled l.circuit.arranged l.signal l.reader-items l.reader-index
      l.initial.waiting l.waiting;
}
