use Rattle.std.{proofs.Common.{◌≡◌, ◌<◌, ℕ, Contains, true, false}, specs.Prelude.{Some, slice_get}}
use Rattle.block_sim.specs.declared.propagation.Followed.{Followed}
use Rattle.block_sim.proofs.SettledLanes.{HasHit, IsOpen}
use Rattle.flat_circuit.specs.Words.{lane}
use Rattle.block_sim.proofs.propagation.below_hits.Given as goal

abbrev pub invariant-loop-one : goal.invariant-loop-one
invariant-loop-one l = record {
  below : (k : ℕ) → k < 128 → lane l.below k ≡ true → (one : Followed) × Contains l.followed one
      × IsOpen one l.seen k;
  rest : (k : ℕ) → k < 128 → lane l.below k ≡ false → (i : ℕ) (one : Followed) → i < l.one-index
      → slice_get l.followed i ≡ Some one → HasHit one l.seen k;
}
