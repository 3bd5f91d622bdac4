-- The places of a text at which its lines begin, counted from 0 in bytes.
use Rattle.std.specs.Prelude.{◌≡◌, ℕ, ◌-◌, ◌<◌, ◌≤◌, List, length, slice_index}

-- a line of the text begins at this place, or the text ends there
pub record IsLineStart (text : List ℕ) (place : ℕ) : Type 0 where
  pub within : place ≤ length text
  pub after_feed : 0 < place → place < length text → slice_index text (place - 1) ≡ 10

-- the first such place from this one on
pub record IsLineStartFrom (text : List ℕ) (place start : ℕ) : Type 0 where
  pub is : IsLineStart text start
  pub later : place ≤ start
  pub first : (earlier : ℕ) → place ≤ earlier → earlier < start → ¬ IsLineStart text earlier
