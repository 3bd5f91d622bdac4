use Rattle.std.{proofs.Common.{◌≡◌, ℕ, ◌<◌, Some, length}, specs.Prelude.{slice_get, slice_index}}
use Rattle.block_sim.specs.First.{AreDetecting}
use Rattle.faultsim_c.proofs.lanes.write_lanes.Given as goal

-- the words of the classes so far stand in their places
abbrev pub invariant-loop-place : goal.invariant-loop-place
invariant-loop-place l = record {
  long : length l.lanes ≡ length l.fn.lanes;
  each : (k : ℕ) → k < l.place → (class : ℕ) → slice_get l.classes k ≡ Some class
      → AreDetecting l.job.list.model l.job.circuit l.job.tests.tests class l.block
      (slice_index l.lanes k);
}
