use Rattle.std.{proofs.Common.{◌≡◌, ℕ, ◌<◌, length}, specs.Prelude.slice_index}
use Rattle.flat_circuit.specs.Words.{IsFaultFreeWord}
use Rattle.faultsim_c.proofs.signals.fill_values.Given as goal

-- the words of the signals so far stand in their places
abbrev pub invariant-loop-signal : goal.invariant-loop-signal
invariant-loop-signal l = (length l.words ≡ length l.fn.words) × ((k : ℕ) → k < l.signal
    → IsFaultFreeWord l.job.circuit l.job.tests.tests l.block k (slice_index l.words k))
