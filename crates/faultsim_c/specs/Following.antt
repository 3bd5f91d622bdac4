-- New tests after the last one of a list.
use Rattle.std.specs.Prelude.{◌-◌, ◌+◌, ◌*◌, ◌^◌, ◌<◌, ◌++◌, ℕ, All, Bool, List, length, drop}
use Rattle.patterns.specs.Making.{word_of}
use Rattle.patterns.specs.Tests.{IsWord, TestList}

-- the last test, if there is one
abbrev pub last_of : List (List Bool) → List (List Bool)
last_of tests = drop (length tests - 1) tests

-- the last of the old tests, and then the new ones
abbrev pub after_last : List (List Bool) → List (List Bool) → List (List Bool)
after_last old new = last_of old ++ new

-- tests of the same width
abbrev pub following : TestList → TestList → TestList
following old new = record { width = new.width; tests = after_last old.tests new.tests }

-- words of tests, as many as there are: block after block, and in a block one for each source
pub record AreFirstWords (tests : List (List Bool)) (width : ℕ) (words : List ℕ) : Type 0 where
  pub fits : All (λ word. word < 2 ^ 64) words
  pub each : (block source : ℕ) → source < width → width * block + source < length words
      → IsWord tests block source (word_of width words block source)
