use Rattle.std.proofs.Common.{◌≤◌, ◌-◌, length}
use Rattle.patterns.specs.Tests.{blocks}
use Rattle.region_sim.specs.ClassOrder.{classes_of}
use Rattle.region_sim.specs.OpenPlaces.{AreNextOpen}
use Rattle.region_sim.specs.RegionHits.{ServesRegions}
use Rattle.region_runs.specs.StretchRuns.{AreKeptUpTo, ArePassed}
use Rattle.region_runs.specs.Tasks.{task_of}
use Rattle.region_runs.proofs.stretch_run.run_rows.Given as goal

abbrev pub invariant-loop-block : goal.invariant-loop-block
invariant-loop-block g l = record {
  low : l.from ≤ l.block;
  within : l.block ≤ blocks (length l.job.tests.tests);
  found : AreKeptUpTo (task_of l.job l.from (g.A.Goal.wants l.goal) (g.A.Goal.means l.goal))
      (classes_of l.rows) 0 l.block l.kept;
  passed : ArePassed (task_of l.job l.from (g.A.Goal.wants l.goal) (g.A.Goal.means l.goal))
      (classes_of l.rows) l.worker (g.G.Gate.stops l.gate) 0 l.block;
  next : AreNextOpen (g.A.Goal.wants l.goal) l.kept l.next;
  serves : ServesRegions l.simulation l.job (length l.rows);
}

abbrev pub decreases-loop-block : goal.decreases-loop-block
decreases-loop-block g l = blocks (length l.job.tests.tests) - l.block
