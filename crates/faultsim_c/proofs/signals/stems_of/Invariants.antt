use Rattle.std.{proofs.Common.{◌≡◌, ℕ, ◌<◌, length}, specs.Prelude.slice_index}
use Rattle.faultsim_c.specs.Calls.{IsStemAt}
use Rattle.faultsim_c.proofs.signals.stems_of.Given as goal

-- the stems of the classes so far stand in their places
abbrev pub invariant-loop-class : goal.invariant-loop-class
invariant-loop-class l = (length l.stems ≡ length l.fn.stems)
    × ((k : ℕ) → k < l.class → IsStemAt l.job k (slice_index l.stems k))
