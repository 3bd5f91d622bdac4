use Rattle.std.proofs.Common.{rules}
use Rattle.fault_ledger.proofs.SeatSteps.{seated_sees}
use Rattle.fault_ledger.proofs.shared.SharedLedger.meet.Goals as goal

pub invariant_of-first : goal.invariant_of-first
invariant_of-first c =
    let i = c.first.inside in
    seated_sees i.token c.meet.new.first i.worker i.exhausted i.row i.piece i.remembered.items
    c.first.invariant c.meet.ensures.first_sees

pub invariant_of-second : goal.invariant_of-second
invariant_of-second c =
    let i = c.second.inside in
    seated_sees i.token c.meet.new.second i.worker i.exhausted i.row i.piece i.remembered.items
    c.second.invariant c.meet.ensures.second_sees

pub returns-clause-first : goal.returns-clause-first
returns-clause-first c = search rules

pub returns-clause-second : goal.returns-clause-second
returns-clause-second c = search rules

pub returns-clause-met : goal.returns-clause-met
returns-clause-met c = search rules
