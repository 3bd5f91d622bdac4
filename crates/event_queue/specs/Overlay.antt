-- How an overlay keeps which words differ.
use Rattle.std.specs.Prelude.{◌≡◌, ◌≢◌, ℕ, ◌+◌, ◌<◌, List, length, slice_index_or}
use Rattle.event_queue.specs.Zeros.{zeros}

-- The first `count` entries of the list name the words that are not 0. The count and the number of
-- zeros add up to the number of words.
pub record IsOverlay (words changed : List ℕ) (count : ℕ) : Type 0 where
  pub room : length changed ≡ length words
  pub counted : count + zeros words ≡ length words
  pub within : (j : ℕ) → j < count → slice_index_or changed j 0 < length words
  pub listed : (s : ℕ) → slice_index_or words s 0 ≢ 0 → (j : ℕ) × (j < count)
      × (slice_index_or changed j 0 ≡ s)
