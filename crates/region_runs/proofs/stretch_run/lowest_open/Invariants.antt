use Rattle.region_runs.specs.StretchRuns.{IsLowest, IsOpenBelow}
use Rattle.region_runs.specs.Tasks.{task_of}
use Rattle.region_runs.proofs.stretch_run.lowest_open.Given as goal

abbrev pub invariant-loop-place : goal.invariant-loop-place
invariant-loop-place g l = IsLowest (IsOpenBelow
    (task_of l.job l.from (g.A.Goal.wants l.goal) (g.A.Goal.means l.goal)) l.classes l.stop l.place)
    l.lowest
