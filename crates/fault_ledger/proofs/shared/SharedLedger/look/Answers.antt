use Rattle.std.proofs.Common.{rules}
use Rattle.fault_ledger.proofs.SeatSteps.{seated_sees}
use Rattle.fault_ledger.proofs.shared.SharedLedger.look.Goals as goal

pub invariant_of-seat : goal.invariant_of-seat
invariant_of-seat c =
    let i = c.seat.inside in
    seated_sees i.token c.look.new.token i.worker i.exhausted i.row i.piece i.remembered.items
    c.seat.invariant c.look.ensures.seen

pub returns-clause-state : goal.returns-clause-state
returns-clause-state c = search rules
