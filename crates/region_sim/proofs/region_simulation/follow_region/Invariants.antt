use Rattle.std.proofs.Common.{◌≡◌, ◌⊎◌, ◌-◌, ◌<◌, ◌≤◌, ℕ, length}
use Rattle.std.specs.Prelude.{slice_get, vec_capacity, vec_len}
use Rattle.block_sim.specs.PropagationState.{IsAsLarge, IsClear}
use Rattle.region_sim.specs.OpenPlaces.{AgreeFrom, KeepsClosed}
use Rattle.region_sim.specs.RegionHits.{AreFollowedAt, AreInOrder, AreOpen, AreStill, HasAdded}
use Rattle.region_sim.specs.RegionHits.{HaveStem, HaveTakenBut}
use Rattle.flat_circuit.specs.Readers.{IsObserved}
use Rattle.region_sim.specs.Sensitized.{HasBegun, IsSameRegion}
use Rattle.region_sim.proofs.region_simulation.follow_region.Given as goal

abbrev pub invariant-loop-place : goal.invariant-loop-place
invariant-loop-place g l = record {
  low : l.from ≤ l.place;
  within : l.place ≤ length l.rows;
  stems : HaveStem (g.G.Goal.wants l.goal) l.rows l.fn.kept l.from l.place l.stem;
  taken : (first : ℕ) (before : _) → first ≤ l.from → AgreeFrom l.from before l.fn.kept
      → HaveTakenBut (g.G.Goal.wants l.goal) (g.G.Goal.means l.goal) l.job l.span l.rows
      l.fn.followed.items first l.from before l.fn.kept
      → HaveTakenBut (g.G.Goal.wants l.goal) (g.G.Goal.means l.goal) l.job l.span l.rows
      l.followed.items first l.place before l.kept;
  still : (first : ℕ) (before : _) → first ≤ l.from → AgreeFrom l.from before l.fn.kept
      → AreFollowedAt l.rows first l.from l.fn.followed.items
      → AreStill l.fn.followed.items before l.fn.kept → AreStill l.followed.items before l.kept;
  ordered : (first : ℕ) → first ≤ l.from → AreFollowedAt l.rows first l.from l.fn.followed.items
      → AreInOrder l.fn.followed.items → AreInOrder l.followed.items;
  at : (first : ℕ) → first ≤ l.from → AreFollowedAt l.rows first l.from l.fn.followed.items
      → AreFollowedAt l.rows first l.place l.followed.items;
  added : HasAdded l.job l.span l.stem l.fn.followed.items l.followed.items;
  others : (place : ℕ) → (place < l.from) ⊎ (l.place ≤ place)
      → slice_get l.kept place ≡ slice_get l.fn.kept place;
  closed : KeepsClosed (g.G.Goal.wants l.goal) l.fn.kept l.kept;
  idle : (before : _) → AgreeFrom l.from before l.fn.kept
      → AreOpen (g.G.Goal.wants l.goal) before l.fn.followed.items
      → AreOpen (g.G.Goal.wants l.goal) before l.followed.items;
  hidden : (l.followed.items ≡ l.fn.followed.items)
      ⊎ (IsObserved l.view.circuit.now.arranged l.fn.region.stem → ⊥);
  begun : HasBegun l.job l.view l.stem l.region;
  same : IsSameRegion l.fn.region l.region;
  places : length l.kept ≡ length l.fn.kept;
  few : vec_len l.followed ≤ l.place;
  capacity : vec_capacity l.followed ≡ vec_capacity l.fn.followed;
  room : IsAsLarge l.fn.changes l.changes;
  clear : IsClear l.changes;
}

abbrev pub decreases-loop-place : goal.decreases-loop-place
decreases-loop-place g l = length l.rows - l.place
