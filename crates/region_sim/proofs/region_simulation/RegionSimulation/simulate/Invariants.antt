use Rattle.std.{proofs.Common.{◌≡◌, ◌≤◌, ◌-◌, ℕ, length}, specs.Prelude.slice_get}
use Rattle.region_sim.specs.{Goals.HaveTaken, OpenPlaces.KeepsClosed, RegionHits.ServesRegions}
use Rattle.region_sim.proofs.region_simulation.RegionSimulation.simulate.Given as goal

abbrev pub invariant-loop-place : goal.invariant-loop-place
invariant-loop-place g l = record {
  within : l.place ≤ length l.rows;
  taken : HaveTaken (g.G.Goal.means l.goal) l.job l.span l.rows 0 l.place l.fn.kept l.kept;
  later : (place : ℕ) → l.place ≤ place → slice_get l.kept place ≡ slice_get l.fn.kept place;
  closed : KeepsClosed (g.G.Goal.wants l.goal) l.fn.kept l.kept;
  places : length l.kept ≡ length l.fn.kept;
  serves : ServesRegions l.self l.job (length l.rows);
}

abbrev pub decreases-loop-place : goal.decreases-loop-place
decreases-loop-place g l = length l.rows - l.place
