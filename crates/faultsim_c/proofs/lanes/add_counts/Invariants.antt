use Rattle.std.proofs.Common.{◌≡◌, ℕ, ◌+◌, ◌<◌, ◌≤◌, Some, length, min}
use Rattle.std.specs.Prelude.{slice_get, slice_index}
use Rattle.faultsim_c.specs.Lanes.{IsBlockCount}
use Rattle.faultsim_c.proofs.lanes.add_counts.Given as goal

-- the counts so far have the tests of the block, and the others are as they were
abbrev pub invariant-loop-place : goal.invariant-loop-place
invariant-loop-place l = record {
  long : length l.counts ≡ length l.fn.counts;
  each : (k : ℕ) → k < l.place → (class old : ℕ) → slice_get l.classes k ≡ Some class
      → slice_get l.fn.counts k ≡ Some old → (n : ℕ) × IsBlockCount l.job class l.block n ×
      (slice_index l.counts k ≡ min l.most (old + n));
  others : (k : ℕ) → l.place ≤ k → slice_get l.counts k ≡ slice_get l.fn.counts k;
}
