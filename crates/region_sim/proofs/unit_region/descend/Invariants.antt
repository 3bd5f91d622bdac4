use Rattle.std.proofs.Common.{◌≡◌, ℕ, List, length}
use Rattle.std.specs.Prelude.{None, Some, slice_index_or, vec_capacity, vec_len}
use Rattle.fault_model.specs.Solution.{Test}
use Rattle.wide_words.specs.Wide.{number}
use Rattle.region_sim.specs.{Pack.AreRows, Sensitized.{IsPathTo, on_from}}
use Rattle.region_sim.specs.Units.{AreKnownInUnit, CarryFlip}
use Rattle.region_sim.proofs.unit_region.descend.Given as goal

abbrev pub invariant-loop-signal : goal.invariant-loop-signal
invariant-loop-signal g l = record {
  path : IsPathTo l.circuit.arranged l.path.items l.at.signal;
  first : on_from l.path.items l.at.signal ≡ on_from l.fn.path.items l.fn.from.signal;
  known : (stem : ℕ) → AreKnownInUnit l.circuit.arranged g.C.Copies.layout
      (g.C.Copies.rows l.copies) stem l.fn.known
      → slice_index_or l.fn.known l.fn.from.signal None ≡ Some l.fn.from.lanes
      → AreKnownInUnit l.circuit.arranged g.C.Copies.layout (g.C.Copies.rows l.copies) stem l.known
      × ((tests : List Test) (group : ℕ → ℕ)
      → AreRows l.circuit.arranged tests g.C.Copies.layout group (g.C.Copies.rows l.copies)
      → CarryFlip l.circuit.arranged tests g.C.Copies.layout group l.at.signal stem
      (number l.at.lanes));
  signals : length l.known ≡ length l.fn.known;
  capacity : vec_capacity l.path ≡ vec_capacity l.fn.path;
}

abbrev pub decreases-loop-signal : goal.decreases-loop-signal
decreases-loop-signal g l = vec_len l.path
