-- The best of some numbers, while tests are put in order.
use Rattle.std.specs.Prelude.{◌<◌, ◌≤◌, ℕ, List, length, slice_index_or}

-- the place is the first of the greatest of some numbers, which is not 0
pub record IsBest (numbers : List ℕ) (best : ℕ) : Type 0 where
  pub within : best < length numbers
  pub some : 0 < slice_index_or numbers best 0
  pub most : (t : ℕ) → t < length numbers
      → slice_index_or numbers t 0 ≤ slice_index_or numbers best 0
  pub lowest : (t : ℕ) → t < best → slice_index_or numbers t 0 < slice_index_or numbers best 0
