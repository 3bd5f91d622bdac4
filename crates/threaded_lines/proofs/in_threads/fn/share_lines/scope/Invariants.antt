use Rattle.std.proofs.Common.{◌≡◌, ◌<◌, ◌≤◌, ℕ, get_or, length, vec_items, vec_len}
use Rattle.threaded_lines.proofs.in_threads.fn.share_lines.scope.Given as goal

-- no fault is given out past the last, and each handle is promised lines of this list
abbrev pub invariant-loop-thread : goal.invariant-loop-thread
invariant-loop-thread g l = record {
  low : l.start ≤ length (g.L.FaultLines.texts l.lines);
  each : (k : ℕ) (d : _) → k < vec_len l.handles
      → (get_or (vec_items l.handles) k d).promise.lines.value ≡ l.lines;
}
