use Rattle.fault_ledger.specs.Seats.{Sees}
use Rattle.workers.specs.Settling.{AreSettled}
use Rattle.workers.proofs.piece_worker.lowest_waiting.Given as goal

abbrev pub invariant-loop-class : goal.invariant-loop-class
invariant-loop-class l = record {
  sees : Sees l.fn.seat l.fn.seat.exhausted l.seat;
  settled : AreSettled l.ledger.shape l.seat.seen l.class;
}
