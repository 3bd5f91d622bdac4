use Rattle.std.proofs.Common.{◌+◌, ◌-◌, ◌≤◌, length}
use Rattle.region_sim.specs.OpenPlaces.{AreNextOpen, AreSettled}
use Rattle.region_runs.specs.BlockSweeps.{AreNotStopped}
use Rattle.region_runs.proofs.stretch_run.ask_open.Given as goal

abbrev pub invariant-loop-place : goal.invariant-loop-place
invariant-loop-place g l = record {
  low : l.before ≤ l.place;
  within : l.place ≤ length l.rows;
  next : AreNextOpen (g.A.Goal.wants l.goal) l.kept l.next;
  between : AreSettled (g.A.Goal.wants l.goal) l.kept (l.before + 1) l.place;
  asked : AreNotStopped (g.A.Goal.wants l.goal) l.rows l.kept l.worker
      (g.G.Gate.stops l.gate) l.block l.place;
}

abbrev pub decreases-loop-place : goal.decreases-loop-place
decreases-loop-place g l = length l.rows - l.place
