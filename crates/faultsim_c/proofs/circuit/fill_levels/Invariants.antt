use Rattle.std.{proofs.Common.{◌≡◌, ℕ, ◌<◌, length}, specs.Prelude.slice_index}
use Rattle.faultsim_c.specs.Circuits.{IsLevelAt}
use Rattle.faultsim_c.proofs.circuit.fill_levels.Given as goal

-- the levels of the signals so far stand in their places
abbrev pub invariant-loop-signal : goal.invariant-loop-signal
invariant-loop-signal l = (length l.levels ≡ length l.fn.levels)
    × ((k : ℕ) → k < l.signal → IsLevelAt l.circuit k (slice_index l.levels k))
