use Rattle.std.{proofs.Common.{◌≡◌, ◌<◌, ◌≤◌, ℕ}, specs.Prelude.slice_index_or}
use Rattle.event_queue.proofs.places.first_marked.Given as goal

abbrev pub invariant-loop-at : goal.invariant-loop-at
invariant-loop-at l = record {
  low : l.from ≤ l.at;
  none : (i : ℕ) → l.from ≤ i → i < l.at → slice_index_or l.summary i 0 ≡ 0;
}
