use Rattle.std.proofs.Common.{◌≡◌, ◌∙◌, ◌+◌, ◌*◌, ◌++◌, ℕ, List, Option, [], refl, sym, ap, subst}
use Rattle.std.proofs.{Common.{All, arith, ◌<◌}, lemmas.Result.err_from_is_err_and}
use Rattle.block_sim.{proofs.Public.true_table, specs.Parts.{Parts, piece_count as job_pieces}}
use Rattle.fault_ledger.specs.{declared.Shape.Shape, History.{History, piece_count}, Answer.IsLegal}
use Rattle.fault_ledger.specs.Face.{Face, face}
use Rattle.workers.specs.{Refused.IsScheduleFault, Schedule.{after_moves, turns, schedule_history}}
use Rattle.workers.specs.Settling.{AreSettled, IsShapeOf, shape_for}
use Rattle.workers.{specs.Verdict.{AreFirsts, verdicts}, proofs.TrueOutcomes.firsts_of}
use Rattle.workers.proofs.SettledLedgers.{settled_finished}
use Rattle.workers.proofs.MoveLists.{played_on, scheduled, skipped_few, moved_true}
use Rattle.workers.proofs.schedule.run_schedule.Goals as goal

-- the verdicts by a ledger, under another name of its shape
told : (job : Parts) (s : Shape) (h : History) (f : Face) (firsts : List (Option ℕ)) → IsLegal s h
    → f ≡ face s h → ((g : History) → IsLegal f.shape g → f ≡ face f.shape g
    → firsts ≡ verdicts f.shape g job.classes.class_of) → firsts ≡ verdicts s h job.classes.class_of
told job s h f firsts l e say =
    subst (λ (x : Shape). IsLegal x h → f ≡ face x h → firsts ≡ verdicts x h job.classes.class_of)
    (ap (λ (x : Face). x.shape) e) (say h) l e

pub take_turns-dropped-requires-clause-history : goal.take_turns-dropped-requires-clause-history
take_turns-dropped-requires-clause-history c =
    let job = c.args.job.now in
    let t = true_table job.list.model job.circuit job.tests.tests
    c.faults.ensures.together.circuit.well_formed in
    let s = shape_for job c.args.workers in
    let begins = c.in_ok-ledger.ensures.face in
    let a = played_on job t.0 s c.in_ok-ledger.ledger c.play-played.new.ledger [] c.args.moves.now
    c.play-played.result.skipped c.play-played.result.changed
    (ap (λ (x : Face). x.shape) begins) t.1 tt begins c.play-played.ensures.moved in
    subst (λ (x : Shape). (g : History) × IsLegal x g × (c.play-played.new.ledger ≡ face x g))
    (sym (ap (λ (x : Face). x.shape) a.0)) (after_moves t.0 s [] c.args.moves.now, a.1, a.0)

pub overflow_add-skipped : goal.overflow_add-skipped
overflow_add-skipped c =
    let job = c.args.job.now in
    let t = true_table job.list.model job.circuit job.tests.tests
    c.faults.ensures.together.circuit.well_formed in
    let s = shape_for job c.args.workers in
    let is : IsShapeOf job s = record { classes = refl; tests = refl } in
    let x = scheduled job t.0 s c.args.moves.now c.in_ok-ledger.ledger c.play-played.new.ledger
    c.take_turns-dropped.new.ledger c.play-played.result.skipped c.take_turns-dropped.result
    c.play-played.result.changed t.1 c.in_ok-ledger.ensures.face c.play-played.ensures.moved
    c.take_turns-dropped.ensures.moved in
    let few = skipped_few job s (schedule_history t.0 s c.args.moves.now) 0
    (c.play-played.result.skipped + c.take_turns-dropped.result) is c.in_ok-check_job.ensures.few
    x.1 (x.2 ∙ omega arith) in
    omega (arith, few)

pub verdicts_of-requires-clause-settled : goal.verdicts_of-requires-clause-settled
verdicts_of-requires-clause-settled c =
    let job = c.args.job.now in
    let t = true_table job.list.model job.circuit job.tests.tests
    c.faults.ensures.together.circuit.well_formed in
    let s = shape_for job c.args.workers in
    let x = scheduled job t.0 s c.args.moves.now c.in_ok-ledger.ledger c.play-played.new.ledger
    c.take_turns-dropped.new.ledger c.play-played.result.skipped c.take_turns-dropped.result
    c.play-played.result.changed t.1 c.in_ok-ledger.ensures.face c.play-played.ensures.moved
    c.take_turns-dropped.ensures.moved in
    subst (λ (y : Shape). (h : History) × IsLegal y h × (c.take_turns-dropped.new.ledger ≡ face y h)
    × AreSettled y h y.classes) (sym (ap (λ (f : Face). f.shape) x.0))
    (schedule_history t.0 s c.args.moves.now, x.1, x.0, x.3)

pub returns-clause-firsts : goal.returns-clause-firsts
returns-clause-firsts c =
    let job = c.args.job.now in
    let together = c.faults.ensures.together in
    let t = true_table job.list.model job.circuit job.tests.tests together.circuit.well_formed in
    let s = shape_for job c.args.workers in
    let is : IsShapeOf job s = record { classes = refl; tests = refl } in
    let x = scheduled job t.0 s c.args.moves.now c.in_ok-ledger.ledger c.play-played.new.ledger
    c.take_turns-dropped.new.ledger c.play-played.result.skipped c.take_turns-dropped.result
    c.play-played.result.changed t.1 c.in_ok-ledger.ensures.face c.play-played.ensures.moved
    c.take_turns-dropped.ensures.moved in
    let h : History = schedule_history t.0 s c.args.moves.now in
    let own = told job s h c.take_turns-dropped.new.ledger c.in_ok-verdicts.verdicts.firsts x.1 x.0
    c.in_ok-verdicts.ensures.firsts in
    subst (AreFirsts job.list.model job.circuit job.tests.tests) (sym own)
    (firsts_of job s t.0 h together is t.1 (moved_true t.0 s [] (c.args.moves.now
    ++ turns s.workers (2 * piece_count s)) tt) x.3)

pub returns-clause-history : goal.returns-clause-history
returns-clause-history c =
    let job = c.args.job.now in
    let t = true_table job.list.model job.circuit job.tests.tests
    c.faults.ensures.together.circuit.well_formed in
    let s = shape_for job c.args.workers in
    let x = scheduled job t.0 s c.args.moves.now c.in_ok-ledger.ledger c.play-played.new.ledger
    c.take_turns-dropped.new.ledger c.play-played.result.skipped c.take_turns-dropped.result
    c.play-played.result.changed t.1 c.in_ok-ledger.ensures.face c.play-played.ensures.moved
    c.take_turns-dropped.ensures.moved in
    record {
      table = t.0;
      is_true = t.1;
      finished = settled_finished s (schedule_history t.0 s c.args.moves.now) x.3;
      firsts = told job s (schedule_history t.0 s c.args.moves.now) c.take_turns-dropped.new.ledger
          c.in_ok-verdicts.verdicts.firsts x.1 x.0 c.in_ok-verdicts.ensures.firsts;
      skipped = c.in_ok-verdicts.ensures.skipped ∙ (c.from.ensures ∙ sym x.2);
    }

pub play-played-requires-clause-workers : goal.play-played-requires-clause-workers
play-played-requires-clause-workers c =
    subst (λ (s : Shape). All (λ w. w < s.workers) c.args.moves.now)
    (sym (ap (λ (x : Face). x.shape) c.in_ok-ledger.ensures.face))
    c.in_ok-check_moves.ensures.in_range

pub returns-in_err-firsts-clause-refused : goal.returns-in_err-firsts-clause-refused
returns-in_err-firsts-clause-refused c =
    let p = err_from_is_err_and c.from_residual-in_err-firsts.result
    c.from_residual-in_err-firsts.ensures.1 in
    rw (p.1, p.2) (
      c.in_ok-check_workers.ensures.in_range.0,
      c.in_ok-check_workers.ensures.in_range.1,
      c.in_ok-check_moves.ensures.in_range,
    )

pub returns-in_err-verdicts-clause-refused : goal.returns-in_err-verdicts-clause-refused
returns-in_err-verdicts-clause-refused c =
    let p = err_from_is_err_and c.from_residual-in_err-verdicts.result
    c.from_residual-in_err-verdicts.ensures.1 in
    rw (p.1, p.2) (subst (IsScheduleFault (job_pieces c.args.job.now) c.args.workers
    c.args.moves.now) (sym c.in_err-verdicts.ensures.refused) (
      c.in_ok-check_workers.ensures.in_range.0,
      c.in_ok-check_workers.ensures.in_range.1,
      c.in_ok-check_moves.ensures.in_range,
    ))
