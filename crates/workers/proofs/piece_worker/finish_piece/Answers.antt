use Rattle.workers.proofs.SeatCalls.{dropped, then_reported, then_taken}
use Rattle.workers.proofs.piece_worker.finish_piece.Goals as goal

pub returns-then-drop_held-clause-works : goal.returns-then-drop_held-clause-works
returns-then-drop_held-clause-works c = (dropped c.args.job.now c.args.seat.now
    c.drop_held.new.seat _ (c.drop_held.ensures.dropped c.if-drop_held.true)).0

pub returns-then-drop_held-clause-exhausted : goal.returns-then-drop_held-clause-exhausted
returns-then-drop_held-clause-exhausted c = (dropped c.args.job.now c.args.seat.now
    c.drop_held.new.seat _ (c.drop_held.ensures.dropped c.if-drop_held.true)).1

pub returns-then-drop_held-clause-free : goal.returns-then-drop_held-clause-free
returns-then-drop_held-clause-free c = (dropped c.args.job.now c.args.seat.now
    c.drop_held.new.seat _ (c.drop_held.ensures.dropped c.if-drop_held.true)).2

pub unreachable-requires : goal.unreachable-requires
unreachable-requires c = then_taken c.args.job.now c.args.seat.now
    c.drop_held.new.seat c.args.ledger.now
    c.args.class c.args.block c.requires.place c.requires.sitter c.requires.shape
    c.requires.range.0 c.requires.piece c.report.new.seat c.first_hit-outcome.result
    (c.drop_held.ensures.missed c.if-drop_held.false) c.first_hit-outcome.ensures.outcome
    c.in_default.field-0 c.in_default.ensures.refused

pub returns-clause-works : goal.returns-clause-works
returns-clause-works c = then_reported c.args.job.now c.args.seat.now
    c.drop_held.new.seat c.args.ledger.now
    c.args.class c.args.block c.requires.place c.requires.sitter c.requires.shape
    c.requires.range.0 c.requires.piece c.report.new.seat c.first_hit-outcome.result
    (c.drop_held.ensures.missed c.if-drop_held.false) c.first_hit-outcome.ensures.outcome _
    c.in-Ok.ensures.accepted
