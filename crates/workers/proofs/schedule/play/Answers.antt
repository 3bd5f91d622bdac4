use Rattle.std.proofs.Common.{◌∙◌, ◌+◌, ◌++◌, ◌∷◌, [], ℕ, List, Some, sym, ap, subst, get_or, take}
use Rattle.std.{proofs.Common.{add-one, arith, refl, cond}, specs.Option.option_map_or}
use Rattle.std.proofs.{Math.Seq.take-suc, lemmas.List.take_all}
use Rattle.block_sim.proofs.Public.{true_table}
use Rattle.fault_ledger.specs.{declared.Event.Event, History.History}
use Rattle.workers.{specs.Schedule.{after_moves, drops}, proofs.MoveLists.skipped_few}
use Rattle.workers.proofs.MoveLists.{Done, done_more, done_same, done_none, stepped, not_drop}
use Rattle.workers.proofs.schedule.play.Goals.{in-Some+in-Drop, in-Some+in_default-event}
use Rattle.workers.proofs.schedule.play.Goals.{in_default}
use Rattle.workers.proofs.schedule.play.Goals as goal

pub loop-worker-init : goal.loop-worker-init
loop-worker-init c = record {
  shape = refl;
  serves = c.requires.serves;
  done = λ t h is l e. done_none t c.args.ledger.now.shape h c.args.ledger.now l e;
}

pub overflow_add-skipped : goal.overflow_add-skipped
overflow_add-skipped c =
    let was = c.loop-worker.invariant in
    let job = c.args.job.now in
    let s = c.args.ledger.now.shape in
    let k = c.loop-worker.worker-index in
    let w = get_or c.args.moves.now k 0 in
    let together = c.classes-parts.ensures.together in
    let t = true_table job.list.model job.circuit job.tests.tests together.circuit.well_formed in
    let h = c.requires.history in
    let at = was.done t.0 h.0 t.1 h.1 h.2 in
    let g : History = after_moves t.0 s h.0 (take k c.args.moves.now) in
    let m = stepped job t.0 s c.loop-worker.ledger c.step.new.ledger g w c.step.result was.shape
    together c.requires.shape t.1 (c.requires.workers k 0 c.loop-worker-test.true) at.1 at.0
    c.step.ensures.moved in
    let adds = m.2 ∙ ap (λ r. option_map_or (λ event. event ∷ g) r g) (c.in-Some.is
    ∙ ap Some c.in-Drop.is) in
    let more = done_more t.0 s h.0 (take k c.args.moves.now) w c.loop-worker.ledger
    c.step.new.ledger c.loop-worker.skipped c.loop-worker.changed at m.0 m.1
    (Event.Drop c.in-Drop.field-0) (c.loop-worker.skipped + 1) adds refl in
    let few = skipped_few job s (after_moves t.0 s h.0 (take k c.args.moves.now ++ w ∷ []))
    (drops h.0) (c.loop-worker.skipped + 1) c.requires.shape c.requires.few more.1 more.2 in
    omega (arith, few)

pub loop-worker-preserved : goal.loop-worker-preserved
loop-worker-preserved c =
    let was = c.loop-worker.invariant in
    let s = c.args.ledger.now.shape in
    let k = c.loop-worker.worker-index in
    let xs = c.args.moves.now in
    let w = get_or xs k 0 in
    let next = ap (λ i. take i xs) (add-one k) ∙ take-suc xs k 0 c.loop-worker-test.true in
    record {
      shape = c.step.ensures.shape ∙ was.shape;
      serves = c.step.ensures.serves;
      done = λ t h is l e.
          let at = was.done t h is l e in
          let g : History = after_moves t s h (take k xs) in
          let m = stepped c.args.job.now t s c.loop-worker.ledger c.step.new.ledger g w
          c.step.result was.shape c.classes-parts.ensures.together c.requires.shape is
          (c.requires.workers k 0 c.loop-worker-test.true) at.1 at.0 c.step.ensures.moved in
          subst (λ (ys : List ℕ). Done t s h ys c.step.new.ledger c.match-step.skipped
          c.match-step.changed) (sym next) (elim c.match-step.branch [
            | in-Some+in-Drop b ↦
                let adds = m.2 ∙ ap (λ r. option_map_or (λ event. event ∷ g) r g) (b.in-Some.is
                ∙ ap Some b.in-Drop.is) in
                subst (λ x. Done t s h (take k xs ++ w ∷ []) c.step.new.ledger c.match-step.skipped
                x) (sym b.changed-is)
                (done_more t s h (take k xs) w c.loop-worker.ledger c.step.new.ledger
                c.loop-worker.skipped c.loop-worker.changed at m.0 m.1
                (Event.Drop b.in-Drop.field-0) c.match-step.skipped adds b.skipped-is)
            | in-Some+in_default-event b ↦
                let adds = m.2 ∙ ap (λ r. option_map_or (λ event. event ∷ g) r g) b.in-Some.is in
                let kept = not_drop b.in-Some.event b.in_default-event.not-Drop in
                subst (λ x. Done t s h (take k xs ++ w ∷ []) c.step.new.ledger c.match-step.skipped
                x) (sym b.changed-is)
                (done_more t s h (take k xs) w c.loop-worker.ledger c.step.new.ledger
                c.loop-worker.skipped c.loop-worker.changed at m.0 m.1 b.in-Some.event
                c.match-step.skipped adds
                (b.skipped-is ∙ omega arith ∙ ap (λ x. c.loop-worker.skipped + cond x 1 0)
                (sym kept)))
            | in_default b ↦
                let adds = m.2 ∙ ap (λ r. option_map_or (λ event. event ∷ g) r g) b.in_default.is in
                subst (λ x. Done t s h (take k xs ++ w ∷ []) c.step.new.ledger x
                c.match-step.changed) (sym b.skipped-is)
                (subst (λ x. Done t s h (take k xs ++ w ∷ []) c.step.new.ledger
                c.loop-worker.skipped x) (sym b.changed-is)
                (done_same t s h (take k xs) w c.loop-worker.ledger c.step.new.ledger
                c.loop-worker.skipped c.loop-worker.changed at m.0 m.1 adds))
          ]);
    }

pub returns-clause-moved : goal.returns-clause-moved
returns-clause-moved c = λ t h is l e.
    subst (λ (ys : List ℕ). Done t c.args.ledger.now.shape h ys c.loop-worker.ledger
    c.loop-worker.skipped c.loop-worker.changed)
    (take_all c.loop-worker.worker-index c.args.moves.now (omega (arith, c.loop-worker-test.false)))
    (c.loop-worker.invariant.done t h is l e)
