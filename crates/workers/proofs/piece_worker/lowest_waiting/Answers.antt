use Rattle.std.proofs.Common.{◌∙◌, sym}
use Rattle.fault_ledger.proofs.Public.{sees_twice}
use Rattle.workers.proofs.{SeatCalls.{settled_sees, not_waiting}, SettledLedgers.settled_more}
use Rattle.workers.proofs.piece_worker.lowest_waiting.Goals as goal

pub returns-in-Waiting-clause-sees : goal.returns-in-Waiting-clause-sees
returns-in-Waiting-clause-sees c = sees_twice c.args.seat.now c.loop-class.seat c.status.new.seat
    c.loop-class.invariant.sees c.in-Waiting.ensures.seen

pub returns-in-Waiting-clause-settled : goal.returns-in-Waiting-clause-settled
returns-in-Waiting-clause-settled c =
    settled_sees c.args.ledger.now.shape c.loop-class.class c.loop-class.seat c.status.new.seat _
    c.in-Waiting.ensures.seen c.loop-class.invariant.settled

pub loop-class-preserved : goal.loop-class-preserved
loop-class-preserved c =
    let n = not_waiting c.status.result c.in_default.not-Waiting in
    record {
      sees = sees_twice c.args.seat.now c.loop-class.seat c.status.new.seat
          c.loop-class.invariant.sees c.status.ensures.seen;
      settled = settled_more c.args.ledger.now.shape c.loop-class.class c.status.new.seat.seen n.0
          (settled_sees c.args.ledger.now.shape c.loop-class.class c.loop-class.seat
          c.status.new.seat _ c.status.ensures.seen c.loop-class.invariant.settled)
          (sym c.status.ensures.status ∙ n.1);
    }
