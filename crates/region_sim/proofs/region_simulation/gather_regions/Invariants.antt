use Rattle.std.proofs.Common.{◌≡◌, ◌⊎◌, ◌-◌, ◌<◌, ◌≤◌, ℕ, [], length}
use Rattle.std.specs.Prelude.{slice_get, vec_capacity, vec_len}
use Rattle.block_sim.specs.PropagationState.{IsAsLarge, IsClear}
use Rattle.region_sim.specs.{OpenPlaces.KeepsClosed, RegionHits.{AreGathered, HasSameRoom}}
use Rattle.region_sim.proofs.region_simulation.gather_regions.Given as goal

abbrev pub invariant-loop-at : goal.invariant-loop-at
invariant-loop-at g l = record {
  low : l.from ≤ l.at;
  within : l.at ≤ length l.rows;
  moved : (l.from < l.at) ⊎ (l.stems.items ≡ []);
  few : length l.stems.items ≤ l.room;
  len : vec_len l.followed ≤ l.at;
  gathered : AreGathered (g.G.Goal.wants l.goal) (g.G.Goal.means l.goal) l.job
      l.view.circuit.now.arranged l.span l.rows l.from l.at l.stems.items l.followed.items
      l.fn.kept l.kept;
  others : (place : ℕ) → (place < l.from) ⊎ (l.at ≤ place)
      → slice_get l.kept place ≡ slice_get l.fn.kept place;
  closed : KeepsClosed (g.G.Goal.wants l.goal) l.fn.kept l.kept;
  places : length l.kept ≡ length l.fn.kept;
  classes : vec_capacity l.followed ≡ vec_capacity l.fn.followed;
  slots : vec_capacity l.stems ≡ vec_capacity l.fn.stems;
  room : IsAsLarge l.fn.changes l.changes;
  regions : HasSameRoom l.fn.region l.region;
  clear : IsClear l.changes;
}

abbrev pub decreases-loop-at : goal.decreases-loop-at
decreases-loop-at g l = length l.rows - l.at
