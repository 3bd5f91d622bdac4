use Rattle.std.{proofs.Common.{◌≡◌, ◌≢◌, ◌≤◌, ◌-◌, ◌/◌, ℕ, length}, specs.Prelude.slice_index_or}
use Rattle.event_queue.specs.{Places.ArePlaces, Zeros.zeros}
use Rattle.event_queue.proofs.places.Places.clear.Given as goal

abbrev pub invariant-loop-word : goal.invariant-loop-word
invariant-loop-word l = record {
  places : ArePlaces l.self-inside.words.items l.self-inside.summary.items;
  room : length l.self-inside.words.items ≡ length l.initial.self-inside.words.items;
  low : (w : ℕ) → slice_index_or l.self-inside.words.items w 0 ≢ 0 → l.from / 64 ≤ w;
}

abbrev pub decreases-loop-word : goal.decreases-loop-word
decreases-loop-word l = length l.self-inside.words.items - zeros l.self-inside.words.items
