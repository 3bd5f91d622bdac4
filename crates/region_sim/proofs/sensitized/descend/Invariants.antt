use Rattle.std.proofs.Common.{◌≡◌, ℕ, List, length}
use Rattle.std.specs.Prelude.{None, Some, slice_index_or, vec_capacity, vec_len}
use Rattle.fault_model.specs.Solution.{Test}
use Rattle.block_sim.specs.PropagationState.{IsAsLarge, IsClear}
use Rattle.region_sim.specs.Sensitized.{AreKnownFlips, CarriesFlip, IsPathTo, on_from}
use Rattle.flat_circuit.specs.Words.{AreWords}
use Rattle.region_sim.proofs.sensitized.descend.Given as goal

abbrev pub invariant-loop-signal : goal.invariant-loop-signal
invariant-loop-signal l = record {
  path : IsPathTo l.view.circuit.now.arranged l.path.items l.at.signal;
  first : on_from l.path.items l.at.signal ≡ on_from l.fn.path.items l.fn.from.signal;
  known : (mask stem : ℕ) → AreKnownFlips l.view.circuit.now.arranged l.view.good.now mask stem
      l.fn.known → slice_index_or l.fn.known l.fn.from.signal None ≡ Some l.fn.from.lanes
      → AreKnownFlips l.view.circuit.now.arranged l.view.good.now mask stem l.known
      × ((tests : List Test) (group : ℕ)
      → AreWords l.view.circuit.now.arranged tests group None l.view.good.now
      → CarriesFlip l.view.circuit.now.arranged tests group mask l.at.signal stem l.at.lanes);
  signals : length l.known ≡ length l.fn.known;
  capacity : vec_capacity l.path ≡ vec_capacity l.fn.path;
  room : IsAsLarge l.fn.changes l.changes;
  clear : IsClear l.changes;
}

abbrev pub decreases-loop-signal : goal.decreases-loop-signal
decreases-loop-signal l = vec_len l.path
