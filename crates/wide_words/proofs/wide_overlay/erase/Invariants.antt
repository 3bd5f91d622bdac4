use Rattle.std.{proofs.Common.{◌≡◌, ◌≢◌, ◌<◌, ◌≤◌, ℕ, length}, specs.Prelude.slice_index_or}
use Rattle.wide_words.proofs.wide_overlay.erase.Given as goal

abbrev pub invariant-loop-signal : goal.invariant-loop-signal
invariant-loop-signal l = record {
  room : length l.places ≡ length l.fn.places;
  rest : (s : ℕ) → slice_index_or l.places s 0 ≢ 0
      → (j : ℕ) × (l.signal-index ≤ j) × (j < length l.listed) × (slice_index_or l.listed j 0 ≡ s);
}
