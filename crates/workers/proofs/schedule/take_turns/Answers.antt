use Rattle.std.proofs.Common.{◌≡◌, ◌∙◌, ◌<◌, ◌+◌, ℕ, Bool, List, All, refl, sym, ap, subst, arith}
use Rattle.std.proofs.lemmas.Bool.{not-false, not-true}
use Rattle.patterns.specs.Least.{below}
use Rattle.block_sim.proofs.Public.{true_table}
use Rattle.fault_ledger.specs.{declared.Shape.Shape, History.History, Answer.IsLegal, Face.face}
use Rattle.workers.specs.Schedule.{after_moves, turns, drops}
use Rattle.workers.proofs.MoveLists.{Done, played_on, turned_none, turned_more, turned_over}
use Rattle.workers.proofs.MoveLists.{skipped_few, all_below, left_of, left_events}
use Rattle.workers.proofs.schedule.take_turns.Goals as goal

pub turns-init : goal.turns-init
turns-init c = record {
  shape = refl;
  serves = c.requires.serves;
  turned = λ t h is l e. turned_none t c.args.ledger.now.shape h c.args.ledger.now l e;
}

pub play-turn-requires-clause-history : goal.play-turn-requires-clause-history
play-turn-requires-clause-history c =
    let job = c.args.job.now in
    let t = true_table job.list.model job.circuit job.tests.tests
    c.classes-parts.ensures.together.circuit.well_formed in
    let h = c.requires.history in
    let x = c.turns.invariant.turned t.0 h.0 t.1 h.1 h.2 in
    subst (λ (s : Shape). (g : History) × IsLegal s g × (c.turns.ledger ≡ face s g))
    (sym c.turns.invariant.shape) (
      after_moves t.0 c.args.ledger.now.shape h.0
          (turns c.args.ledger.now.shape.workers x.turns_done),
      x.legal,
      x.shows,
    )

pub play-turn-requires-clause-workers : goal.play-turn-requires-clause-workers
play-turn-requires-clause-workers c =
    subst (λ (s : Shape). All (λ w. w < s.workers) c.args.everyone.now)
    (sym c.turns.invariant.shape)
    (subst (λ (xs : List ℕ). All (λ w. w < c.args.ledger.now.shape.workers) xs)
    (sym c.requires.everyone) (all_below c.args.ledger.now.shape.workers))

pub overflow_add-skipped : goal.overflow_add-skipped
overflow_add-skipped c =
    let job = c.args.job.now in
    let s = c.args.ledger.now.shape in
    let t = true_table job.list.model job.circuit job.tests.tests
    c.classes-parts.ensures.together.circuit.well_formed in
    let h = c.requires.history in
    let x = c.turns.invariant.turned t.0 h.0 t.1 h.1 h.2 in
    let g : History = after_moves t.0 s h.0 (turns s.workers x.turns_done) in
    let turn = played_on job t.0 s c.turns.ledger c.play-turn.new.ledger g c.args.everyone.now
    c.play-turn.result.skipped c.play-turn.result.changed c.turns.invariant.shape t.1 x.legal
    x.shows c.play-turn.ensures.moved in
    let sum : drops (after_moves t.0 s g c.args.everyone.now) ≡ drops h.0
    + (c.turns.skipped + c.play-turn.result.skipped) = let a = turn.2 in let b = x.dropped in
    omega (arith, a, b) in
    let few = skipped_few job s (after_moves t.0 s g c.args.everyone.now) (drops h.0)
    (c.turns.skipped + c.play-turn.result.skipped) c.requires.shape c.requires.few turn.1 sum in
    omega (arith, few)

pub returns-then-not-turn-clause-moved : goal.returns-then-not-turn-clause-moved
returns-then-not-turn-clause-moved c = λ t h is l e.
    let job = c.args.job.now in
    let s = c.args.ledger.now.shape in
    let x = c.turns.invariant.turned t h is l e in
    let g : History = after_moves t s h (turns s.workers x.turns_done) in
    let turn = played_on job t s c.turns.ledger c.play-turn.new.ledger g c.args.everyone.now
    c.play-turn.result.skipped c.play-turn.result.changed c.turns.invariant.shape is x.legal x.shows
    c.play-turn.ensures.moved in
    turned_over t s h c.turns.ledger c.play-turn.new.ledger c.turns.skipped
    c.play-turn.result.skipped x c.requires.some
    (subst (λ (b : Bool). Done t s g (below s.workers) c.play-turn.new.ledger
    c.play-turn.result.skipped b) (not-true c.play-turn.result.changed c.if-not-turn.true)
    (subst (λ (xs : List ℕ). Done t s g xs c.play-turn.new.ledger c.play-turn.result.skipped
    c.play-turn.result.changed) c.requires.everyone turn))

pub turns-preserved : goal.turns-preserved
turns-preserved c = record {
  shape = c.play-turn.ensures.shape ∙ c.turns.invariant.shape;
  serves = c.play-turn.ensures.serves;
  turned = λ t h is l e.
      let job = c.args.job.now in
      let s = c.args.ledger.now.shape in
      let x = c.turns.invariant.turned t h is l e in
      let g : History = after_moves t s h (turns s.workers x.turns_done) in
      let turn = played_on job t s c.turns.ledger c.play-turn.new.ledger g c.args.everyone.now
      c.play-turn.result.skipped c.play-turn.result.changed c.turns.invariant.shape is x.legal
      x.shows c.play-turn.ensures.moved in
      turned_more t s h c.turns.ledger c.play-turn.new.ledger c.turns.skipped
      c.play-turn.result.skipped x
      (subst (λ (b : Bool). Done t s g (below s.workers) c.play-turn.new.ledger
      c.play-turn.result.skipped b) (not-false c.play-turn.result.changed c.if-not-turn.false)
      (subst (λ (xs : List ℕ). Done t s g xs c.play-turn.new.ledger c.play-turn.result.skipped
      c.play-turn.result.changed) c.requires.everyone turn));
}

pub turns-smaller : goal.turns-smaller
turns-smaller c =
    let job = c.args.job.now in
    let s = c.args.ledger.now.shape in
    let t = true_table job.list.model job.circuit job.tests.tests
    c.classes-parts.ensures.together.circuit.well_formed in
    let h = c.requires.history in
    let x = c.turns.invariant.turned t.0 h.0 t.1 h.1 h.2 in
    let g : History = after_moves t.0 s h.0 (turns s.workers x.turns_done) in
    let turn = played_on job t.0 s c.turns.ledger c.play-turn.new.ledger g c.args.everyone.now
    c.play-turn.result.skipped c.play-turn.result.changed c.turns.invariant.shape t.1 x.legal
    x.shows c.play-turn.ensures.moved in
    let longer = turn.3 (not-false c.play-turn.result.changed c.if-not-turn.false) in
    let before = left_events s g x.legal in
    let after = left_events s (after_moves t.0 s g c.args.everyone.now) turn.1 in
    let a = ap left_of x.shows in
    let b = ap left_of turn.0 in
    omega (arith, longer, before, after, a, b)
