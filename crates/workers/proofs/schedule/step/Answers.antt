use Rattle.std.proofs.Common.{◌∙◌, ap, subst}
use Rattle.fault_ledger.specs.declared.Call.TheVariants as call
use Rattle.fault_ledger.specs.{declared.Reply.TheVariants.Done, Face.{Face, face, Answers}}
use Rattle.workers.proofs.ScheduleMoves.{told_range, reported_moves, report_event}
use Rattle.workers.proofs.schedule.step.Goals as goal

pub outcome-outcome-requires-clause-class : goal.outcome-outcome-requires-clause-class
outcome-outcome-requires-clause-class c =
    let l = c.held.ensures.ledger.history in
    (told_range c.args.job.now c.args.ledger.now.shape l.0 c.args.worker c.in-Some.class
    c.in-Some.block c.requires.shape l.1 (c.in-Some.ensures.held l.0 l.2)).0

pub outcome-outcome-requires-clause-block : goal.outcome-outcome-requires-clause-block
outcome-outcome-requires-clause-block c =
    let l = c.held.ensures.ledger.history in
    (told_range c.args.job.now c.args.ledger.now.shape l.0 c.args.worker c.in-Some.class
    c.in-Some.block c.requires.shape l.1 (c.in-Some.ensures.held l.0 l.2)).1

pub returns-in-Ok-report-clause-moved : goal.returns-in-Ok-report-clause-moved
returns-in-Ok-report-clause-moved c = λ t h is l e.
    let s = c.args.ledger.now.shape in
    let same = c.in-Err-drop_piece.ensures.refused in
    let a : Answers c.args.ledger.now (call.Report c.args.worker c.outcome-outcome.result) Done
    c.report.new.self =
    subst (λ (f : Face). Answers f (call.Report c.args.worker c.outcome-outcome.result) Done
    c.report.new.self) same c.in-Ok-report.ensures.answer in
    let moves = reported_moves c.args.job.now t s h c.args.worker c.in-Some.class c.in-Some.block
    c.outcome-outcome.result c.in-Err-drop_piece.field-0
    c.classes-parts.ensures.together c.requires.shape is l c.requires.worker
    (c.in-Some.ensures.held h e) (c.in-Err-drop_piece.ensures.answer h l e).0
    c.outcome-outcome.ensures.outcome in (
      (a h l e).1 ∙ ap (face s) moves,
      report_event t s h c.args.worker c.outcome-outcome.result moves (a h l e).0,
    )
