use Rattle.std.{proofs.Common.{◌≡◌, ◌<◌, ℕ, true}, specs.Prelude.{Some, slice_get}}
use Rattle.block_sim.specs.declared.propagation.Followed.{Followed}
use Rattle.region_sim.specs.Pack.{HaveLane}
use Rattle.flat_circuit.specs.Words.{lane}
use Rattle.region_sim.proofs.pack.lanes_of_classes.Given as goal

abbrev pub invariant-loop-one : goal.invariant-loop-one
invariant-loop-one l = record {
  some : (j : ℕ) → j < 128 → lane l.lanes j ≡ true → HaveLane l.followed j;
  all : (j i : ℕ) (one : Followed) → i < l.one-index → slice_get l.followed i ≡ Some one
      → lane one.lanes j ≡ true → lane l.lanes j ≡ true;
}
