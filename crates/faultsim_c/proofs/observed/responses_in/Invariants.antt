use Rattle.std.{proofs.Common.{◌≡◌, ℕ, ◌<◌, ◌/◌, ◌%◌, length}, specs.Prelude.slice_index}
use Rattle.flat_circuit.specs.Words.{IsFaultFreeWord}
use Rattle.faultsim_c.specs.Calls.{observed}
use Rattle.faultsim_c.proofs.observed.responses_in.Given as goal

-- the words so far are the observers' words
abbrev pub invariant-loop-place : goal.invariant-loop-place
invariant-loop-place l = (length l.words ≡ length l.fn.words)
    × ((k : ℕ) → k < l.place → IsFaultFreeWord l.job.circuit l.job.tests.tests (k / l.count)
    (slice_index (observed l.job.circuit) (k % l.count)) (slice_index l.words k))
