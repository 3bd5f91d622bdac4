-- A set of places as contracts see it, and the summary of the words that have any.
use Rattle.std.specs.Prelude.{◌≡◌, ◌≢◌, ℕ, ◌*◌, ◌/◌, ◌%◌, ◌^◌, ◌<◌, ◌≤◌, List, length}
use Rattle.std.specs.Prelude.{map, slice_index_or}
use Rattle.std.specs.Int.{bit_at}
use Rattle.std.specs.List.{range_with_len}

-- 1 if the place is set, else 0: bit p % 64 of word p / 64
abbrev pub flag : List ℕ → ℕ → ℕ
flag words p = bit_at (slice_index_or words (p / 64) 0) (p % 64)

-- a flag for each place
abbrev pub flags : List ℕ → List ℕ
flags words = map (flag words) (range_with_len 0 (64 * length words))

-- A bit of the summary is set exactly if its word is not 0.
pub record ArePlaces (words summary : List ℕ) : Type 0 where
  pub room : length words ≤ 64 * length summary
  pub few : 64 * length words ≤ 2 ^ 32
  pub short : length summary ≤ 2 ^ 32
  pub fits : (w : ℕ) → slice_index_or words w 0 < 2 ^ 64
  pub marked : (w : ℕ) → slice_index_or words w 0 ≢ 0 → flag summary w ≡ 1
  pub marks : (w : ℕ) → flag summary w ≡ 1 → slice_index_or words w 0 ≢ 0
