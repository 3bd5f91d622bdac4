-- Words that are known for some signals, and the marks by which they are known.
use Rattle.std.specs.Prelude.{◌≡◌, ◌==◌, ℕ, ◌<◌, ◌≤◌, List, [], ◌∷◌, Option, Some, None, length}
use Rattle.std.specs.Prelude.{slice_index_or, if◌then◌else◌}

-- the words of signals by number: a word is known if its mark is the number of the unit
abbrev pub known_words : {X : Type 0} → ℕ → List ℕ → List X → List (Option X)
known_words unit (mark ∷ marks) (word ∷ words) =
    (if mark == unit then Some word else None) ∷ known_words unit marks words
known_words unit marks words = []

-- each word has a mark, and no mark has the number of a later unit; the first unit is 1
pub record AreMarked (unit : ℕ) (marks words : List ℕ) : Type 0 where
  pub count : length marks ≡ length words
  pub some : 0 < unit
  pub none_later : (signal : ℕ) → slice_index_or marks signal 0 ≤ unit
