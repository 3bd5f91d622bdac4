use Rattle.std.proofs.Common.{◌≡◌, ap, arith}
use Rattle.fault_ledger.specs.declared.Shape.{Shape}
use Rattle.region_runs.specs.{Stretches.crew_of, Tasks.task_of}
use Rattle.region_runs.proofs.SharedStretches.{served_placed, shared, shared_at}
use Rattle.region_runs.proofs.list_run.hand_out_stretches.Goals as goal

pub serve_all-requires-clause-stretches : goal.serve_all-requires-clause-stretches
serve_all-requires-clause-stretches g c κs within =
    ap (λ (s : Shape). s.tests) c.in_ok-ledger.ensures.ledger

pub close_over-requires-clause-some : goal.close_over-requires-clause-some
close_over-requires-clause-some g c =
    let n = ap (λ (s : Shape). s.workers) c.in_ok-ledger.ensures.ledger in
    omega (arith, n, c.in_ok-back.ensures.served.count, c.max-crew.ensures)

pub close_over-requires-clause-places : goal.close_over-requires-clause-places
close_over-requires-clause-places g c =
    served_placed (task_of c.args.job.now c.args.cut.now.from (g.A.Goal.wants c.args.goal.now)
    (g.A.Goal.means c.args.goal.now)) c.args.cut.now.size c.args.cut.now.classes.items
    c.in_ok-ledger.ledger (g.G.Gate.passing c.args.gate.now) (g.G.Gate.stops c.args.gate.now)
    c.in_ok-back.back.items c.in_ok-back.ensures.served

pub returns-clause-shared : goal.returns-clause-shared
returns-clause-shared g c =
    let P = g.G.Gate.passing c.args.gate.now in
    let S = g.G.Gate.stops c.args.gate.now in
    let x = c.in_ok-handed.ensures.closed in
    let crew : c.max-crew.result ≡ crew_of c.args.workers c.filled-stretches.result = omega (
      arith,
      c.max-crew.ensures,
      c.min.ensures,
    ) in
    shared_at (task_of c.args.job.now c.args.cut.now.from (g.A.Goal.wants c.args.goal.now)
    (g.A.Goal.means c.args.goal.now)) c.args.cut.now.size c.args.cut.now.classes.items
    c.in_ok-ledger.ledger.shape c.filled-stretches.result c.max-crew.result c.args.workers P S
    c.in_ok-handed.handed.dones.items c.in_ok-handed.handed.ledger c.in_ok-ledger.ensures.ledger
    c.filled-stretches.ensures.count crew
    (shared (task_of c.args.job.now c.args.cut.now.from (g.A.Goal.wants c.args.goal.now)
    (g.A.Goal.means c.args.goal.now)) c.args.cut.now.size c.args.cut.now.classes.items
    c.in_ok-ledger.ledger P
    S c.in_ok-back.back.items x.0 c.in_ok-handed.handed.dones.items c.in_ok-handed.handed.ledger
    c.in_ok-back.ensures.served x.1 x.2)
