use Rattle.std.proofs.{Common.sym, lemmas.Result.{IfErr-weaker, IfOk-weaker}}
use Rattle.block_sim.specs.Parts.{with_tests}
use Rattle.region_runs.specs.{Refused.{IsGoalFault, IsOpenFault}, StretchRuns.GoalWaitsFor}
use Rattle.region_runs.{specs.Tasks.task_of, proofs.RunRefusals.{fault_of_open, passing_fault}}
use Rattle.region_runs.proofs.WindowSteps.{all_with}
use Rattle.region_runs.proofs.run_job.RunJob.run_goal_unwatched.Goals as goal

pub returns-in-Some-clause-classes : goal.returns-in-Some-clause-classes
returns-in-Some-clause-classes g c =
    let job = c.self.inside.job in
    rw (sym c.self.view_is, c.in-Some.is) (IfOk-weaker c.run_goal_in_windows.result _ _
    (λ run are. all_with job c.in-Some.tests run.classes.items are)
    c.run_goal_in_windows.ensures.classes)

pub returns-in-None-clause-open : goal.returns-in-None-clause-open
returns-in-None-clause-open g c = λ lets.
    let task = task_of c.self.inside.job 0 (g.A.Goal.wants c.args.goal.now)
    (g.A.Goal.means c.args.goal.now) in
    IfErr-weaker c.run_goal.result
    (IsGoalFault task c.args.stretches c.args.workers (g.G.Gate.passing c.args.gate.now)
    (g.G.Gate.stops c.args.gate.now)) (IsOpenFault c.args.workers)
    (λ f h. passing_fault task.job c.args.workers (g.G.Gate.passing c.args.gate.now)
    (GoalWaitsFor task c.args.stretches c.args.workers (g.G.Gate.stops c.args.gate.now)) f lets h)
    c.run_goal.ensures.refused

pub returns-in-Some-clause-refused : goal.returns-in-Some-clause-refused
returns-in-Some-clause-refused g c =
    let task = task_of (with_tests c.self.inside.job c.in-Some.tests) 0
    (g.A.Goal.wants c.args.goal.now) (g.A.Goal.means c.args.goal.now) in
    rw (sym c.self.view_is, c.in-Some.is) (IfErr-weaker c.run_goal_in_windows.result
    (IsOpenFault c.args.workers)
    (IsGoalFault task c.args.stretches c.args.workers (g.G.Gate.passing c.args.gate.now)
    (g.G.Gate.stops c.args.gate.now))
    (fault_of_open task.job c.args.workers (g.G.Gate.passing c.args.gate.now)
    (GoalWaitsFor task c.args.stretches c.args.workers (g.G.Gate.stops c.args.gate.now)))
    c.run_goal_in_windows.ensures.refused)
