use Rattle.std.proofs.Common.{◌∙◌, ◌++◌, ◌∷◌, [], subst, sym}
use Rattle.region_runs.specs.{StretchRuns.IsDone, Stretches.HasServed, Tasks.task_of}
use Rattle.region_runs.proofs.StretchSeats.{Serving, fewer_left, none_of, served_all}
use Rattle.region_runs.proofs.StretchSeats.{served_stopped, serving_free, serving_more, some_of}
use Rattle.region_runs.proofs.stretch_workers.serve_seat.Goals.{In_ok-push}
use Rattle.region_runs.proofs.stretch_workers.serve_seat.Given as given
use Rattle.region_runs.proofs.stretch_workers.serve_seat.Goals as goal

-- the results of a worker with one stretch more
more : (g : given.Over) (c : In_ok-push g) → Serving (task_of c.args.job.now c.args.cut.now.from
    (g.A.Goal.wants c.args.goal.now) (g.A.Goal.means c.args.goal.now)) c.args.cut.now.size
    c.args.cut.now.classes.items c.args.ledger.now c.args.seat.now.worker
    (g.G.Gate.passing c.args.gate.now) (g.G.Gate.stops c.args.gate.now) c.run_held.new.seat
    (c.claims.dones.items ++ c.in_ok-done.done ∷ [])
more g c =
    let P = g.G.Gate.passing c.args.gate.now in
    let S = g.G.Gate.stops c.args.gate.now in
    let own = subst (λ v. IsDone (task_of c.args.job.now c.args.cut.now.from
    (g.A.Goal.wants c.args.goal.now)
    (g.A.Goal.means c.args.goal.now)) c.args.cut.now.size c.args.cut.now.classes.items v P
    S c.in_ok-done.done) c.claims.invariant.number c.in_ok-done.ensures.done in
    serving_more _ _ _ _ _ _ _ _ _ _ _ _ _ c.claims.invariant.serving c.claims.invariant.free
    c.in-Some.ensures.claimed c.in_ok-done.ensures.after c.in_ok-done.ensures.stretch own

pub returns-in-None : goal.returns-in-None
returns-in-None g c =
    served_all _ _ _ _ _ _ _ _ _ _ c.claims.invariant.serving c.in-None.ensures.exhausted

pub returns-then-stopped : goal.returns-then-stopped
returns-then-stopped g c =
    let v = some_of c.in_ok-done.done.waiting (sym c.is_some-stopped.ensures ∙ c.if-stopped.true) in
    subst (HasServed (task_of c.args.job.now c.args.cut.now.from (g.A.Goal.wants c.args.goal.now)
    (g.A.Goal.means c.args.goal.now)) c.args.cut.now.size c.args.cut.now.classes.items
    c.args.ledger.now c.args.seat.now.worker (g.G.Gate.passing c.args.gate.now)
    (g.G.Gate.stops c.args.gate.now) c.run_held.new.seat) (sym c.in_ok-push.ensures.items)
    (served_stopped _ _ _ _ _ _ _ _ _ _ v.0 v.1
    (more g (goal.at.returns-then-stopped g c).In_ok-push))

pub claims-smaller : goal.claims-smaller
claims-smaller g c = fewer_left c.claims.seat c.claim_next.new.seat c.run_held.new.seat _ _
    c.in_ok-done.done.waiting c.claims.invariant.serving.place_is
    (more g (goal.at.claims-smaller g c).In_ok-push).legal c.in-Some.ensures.claimed
    c.in_ok-done.ensures.after

pub claims-preserved : goal.claims-preserved
claims-preserved g c = record {
  number = c.in_ok-done.ensures.member ∙ c.claims.invariant.number;
  room = c.in_ok-done.ensures.serves;
  serving = subst (Serving (task_of c.args.job.now c.args.cut.now.from
      (g.A.Goal.wants c.args.goal.now) (g.A.Goal.means c.args.goal.now)) c.args.cut.now.size
      c.args.cut.now.classes.items c.args.ledger.now c.args.seat.now.worker
      (g.G.Gate.passing c.args.gate.now) (g.G.Gate.stops c.args.gate.now) c.run_held.new.seat)
      (sym c.in_ok-push.ensures.items) (more g (goal.at.claims-preserved g c).In_ok-push);
  free = serving_free _ _ c.run_held.new.seat _ c.in_ok-done.done.waiting
      c.in-Some.ensures.claimed c.in_ok-done.ensures.after
      (none_of c.in_ok-done.done.waiting (sym c.is_some-stopped.ensures ∙ c.if-stopped.false));
}
