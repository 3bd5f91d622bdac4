use Rattle.std.proofs.Common.{◌≡◌, ◌⊎◌, ◌-◌, ◌<◌, ◌≤◌, ℕ, [], length}
use Rattle.std.specs.Prelude.{slice_get, vec_capacity}
use Rattle.wide_words.specs.Layouts.{both_layout}
use Rattle.flat_circuit.specs.Readers.{IsObserved}
use Rattle.region_sim.specs.{RegionHits.HaveStem, OpenPlaces.KeepsClosed}
use Rattle.region_sim.specs.UnitHits.{AreClassesAt, AreClassesInOrder, AreClassesOpen}
use Rattle.region_sim.specs.UnitHits.{AreClassesStill, HaveArrivedInUnit, HaveTakenBeside}
use Rattle.region_sim.specs.Units.{IsSameUnitRegion, IsUnitRegion, unit_rows}
use Rattle.region_sim.proofs.unit_simulation.follow_unit.Given as goal

abbrev pub invariant-loop-place : goal.invariant-loop-place
invariant-loop-place g l = record {
  low : (l.from < l.place) ⊎ ((l.place ≡ l.from) × (l.classes.items ≡ []));
  within : l.place ≤ length l.rows;
  few : length l.classes.items ≤ 256;
  stems : HaveStem (g.G.Goal.wants l.goal) l.rows l.fn.kept l.from l.place l.stem;
  taken : HaveTakenBeside (g.G.Goal.wants l.goal) (g.G.Goal.means l.goal) l.job l.group l.rows
      l.classes.items l.from l.place l.fn.kept l.kept;
  at : AreClassesAt l.rows l.from l.place l.classes.items;
  came_open : AreClassesOpen (g.G.Goal.wants l.goal) l.fn.kept l.classes.items;
  ordered : AreClassesInOrder l.classes.items;
  still : AreClassesStill l.classes.items l.fn.kept l.kept;
  arrived : HaveArrivedInUnit l.job l.group l.stem l.classes.items;
  hidden : (l.classes.items ≡ []) ⊎ (IsObserved l.view.circuit.now.arranged l.fn.region.stem → ⊥);
  others : (place : ℕ) → (place < l.from) ⊎ (l.place ≤ place)
      → slice_get l.kept place ≡ slice_get l.fn.kept place;
  closed : KeepsClosed (g.G.Goal.wants l.goal) l.fn.kept l.kept;
  places : length l.kept ≡ length l.fn.kept;
  capacity : vec_capacity l.classes ≡ vec_capacity l.fn.classes;
  region : IsUnitRegion l.view.circuit.now.arranged both_layout (unit_rows l.view) l.region;
  same : IsSameUnitRegion l.fn.region l.region;
}

abbrev pub decreases-loop-place : goal.decreases-loop-place
decreases-loop-place g l = length l.rows - l.place
