use Rattle.std.{proofs.Common.{◌≡◌, ℕ, ◌<◌, length}, specs.Prelude.slice_index}
use Rattle.faultsim_c.specs.Calls.{observed}
use Rattle.faultsim_c.proofs.observed.fill_observers.Given as goal

abbrev pub invariant-loop-place : goal.invariant-loop-place
invariant-loop-place l = (length l.signals ≡ length l.fn.signals)
    × ((k : ℕ) → k < l.place → slice_index l.signals k ≡ slice_index (observed l.circuit) k)
