use Rattle.std.proofs.{Common.length, lemmas.Result.err_from_is_err_and}
use Rattle.region_runs.specs.{Part.stretch_size, StretchRuns.GoalWaitsFor, Tasks.task_of}
use Rattle.region_runs.proofs.RunRefusals.{run_fault}
use Rattle.region_runs.proofs.goal_run.run_goal.Goals as goal

pub returns-in_err-done-clause-refused : goal.returns-in_err-done-clause-refused
returns-in_err-done-clause-refused g c =
    let p = err_from_is_err_and c.from_residual-in_err-done.result
    c.from_residual-in_err-done.ensures.1 in
    let task = task_of c.args.job.now 0 (g.A.Goal.wants c.args.goal.now)
    (g.A.Goal.means c.args.goal.now) in
    let classes = c.in_ok-order.order.classes.items in
    let S = g.G.Gate.stops c.args.gate.now in
    rw (p.1, p.2) (run_fault task (stretch_size (length classes) c.args.stretches) classes
    c.args.stretches c.args.workers (g.G.Gate.passing c.args.gate.now) S
    (GoalWaitsFor task c.args.stretches c.args.workers S) _
    (λ class block waits. (classes, c.in_ok-order.ensures.classes, waits))
    c.in_err-done.ensures.refused)
