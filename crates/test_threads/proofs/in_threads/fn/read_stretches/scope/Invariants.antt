use Rattle.std.proofs.Common.{◌≡◌, ◌<◌, ◌≤◌, ℕ, get_or, length, vec_items, vec_len}
use Rattle.test_threads.proofs.in_threads.fn.read_stretches.scope.Given as goal

-- no line is given out past the end, and each handle is promised tests of this text
abbrev pub invariant-loop-thread : goal.invariant-loop-thread
invariant-loop-thread g l = record {
  low : l.start ≤ length l.text.now;
  each : (k : ℕ) (d : _) → k < vec_len l.handles
      → ((get_or (vec_items l.handles) k d).promise.text.now ≡ l.text.now)
      × ((get_or (vec_items l.handles) k d).promise.width ≡ l.width);
}
