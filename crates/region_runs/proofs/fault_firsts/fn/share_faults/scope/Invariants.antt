use Rattle.std.proofs.Common.{◌≡◌, ◌<◌, ◌≤◌, ℕ, get_or, vec_items, vec_len}
use Rattle.region_runs.proofs.fault_firsts.fn.share_faults.scope.Given as goal

-- no fault past the last is given to a thread, and each handle promises first tests of these faults
abbrev pub invariant-loop-thread : goal.invariant-loop-thread
invariant-loop-thread g l = record {
  low : l.start ≤ l.count;
  each : (k : ℕ) (d : _) → k < vec_len l.handles
      → ((get_or (vec_items l.handles) k d).promise.job.value ≡ l.job.now)
      × ((get_or (vec_items l.handles) k d).promise.ordered.value ≡ l.ordered.now);
}
