use Rattle.workers.specs.Stops.{no_stop}
use Rattle.region_runs.specs.Tasks.{task_of}
use Rattle.region_runs.proofs.RunsOfStretches.{not_stopped_kept}
use Rattle.region_runs.proofs.alone.run_alone.Goals as goal

pub returns-clause-kept : goal.returns-clause-kept
returns-clause-kept g c =
    let goal = c.args.goal.now in
    let ended = c.in_ok-ended.ended in
    not_stopped_kept (task_of c.args.job.now 0 (g.A.Goal.wants goal) (g.A.Goal.means goal))
    c.args.classes.now 0 no_stop ended.stop ended.kept.items c.in_ok-ended.ensures.ended
    (c.in_ok-ended.ensures.passing tt)
