use Rattle.std.{proofs.Common.{◌≡◌, ℕ, ◌<◌, Some, length}, specs.Prelude.{slice_get, slice_index}}
use Rattle.block_sim.specs.Flips.{AreObserving}
use Rattle.faultsim_c.proofs.observed.observe_signals.Given as goal

-- the words of the signals so far stand in their places
abbrev pub invariant-loop-place : goal.invariant-loop-place
invariant-loop-place l = record {
  kept : l.session ≡ l.fn.session;
  long : length l.lanes ≡ length l.fn.lanes;
  each : (k : ℕ) → k < l.place → (s : ℕ) → slice_get l.signals k ≡ Some s
      → AreObserving l.fn.session.circuit l.fn.session.tests.tests s l.block
      (slice_index l.lanes k);
}
