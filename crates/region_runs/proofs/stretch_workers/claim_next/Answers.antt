use Rattle.std.proofs.Common.{Ok, ap, subst}
use Rattle.fault_ledger.specs.declared.{Event.Event, Reply.TheVariants.Claimed}
use Rattle.fault_ledger.specs.Seats.{Makes}
use Rattle.region_runs.proofs.StretchSeats.{claims_stretch}
use Rattle.region_runs.proofs.stretch_workers.claim_next.Goals as goal

pub returns-in-Ok-Piece-clause-claimed : goal.returns-in-Ok-Piece-clause-claimed
returns-in-Ok-Piece-clause-claimed c =
    let m = c.in-Ok-Piece.ensures.piece c.in-Ok-Piece.class c.in-Ok-Piece._block
    (ap Ok c.in-Ok-Piece.field-0-is) in
    let n = subst (λ x. Makes c.args.seat.now (Event.Claim c.args.seat.now.worker)
    (Claimed x) c.claim.new.seat) c.in-Ok-Piece.field-0-is m.1 in
    claims_stretch c.args.seat.now c.claim.new.seat c.args.ledger.now c.in-Ok-Piece.class
    c.in-Ok-Piece._block c.requires.place c.requires.stretches n
