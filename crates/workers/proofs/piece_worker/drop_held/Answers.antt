use Rattle.std.proofs.Common.{ap, Err}
use Rattle.workers.proofs.SeatCalls.{missed}
use Rattle.workers.proofs.piece_worker.drop_held.Goals as goal

pub returns-in-Ok-clause-dropped : goal.returns-in-Ok-clause-dropped
returns-in-Ok-clause-dropped c = λ _. c.in-Ok.ensures.accepted

pub returns-in-Ok-clause-missed : goal.returns-in-Ok-clause-missed
returns-in-Ok-clause-missed c = λ e. absurd (cc)

pub returns-in-Err-clause-missed : goal.returns-in-Err-clause-missed
returns-in-Err-clause-missed c = λ _. missed c.args.seat.now c.drop_piece.new.seat
    c.requires.piece.0
    c.requires.sitter c.requires.piece.1 c.in-Err.field-0 c.in-Err.ensures.refusal
    (λ e. c.in-Err.ensures.nothing_held (ap Err e))
    (λ e. c.in-Err.ensures.no_earlier_hit (ap Err e))
