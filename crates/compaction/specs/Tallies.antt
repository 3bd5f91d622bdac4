-- Numbers in binary, in the lanes of words.
use Rattle.std.specs.Prelude.{◌≡◌, ◌<◌, ◌+◌, ◌*◌, ◌/◌, ◌%◌, ℕ, All, Bool, List, [], ◌∷◌, count_by}
use Rattle.std.specs.Prelude.{length, slice_index_or}
use Rattle.patterns.specs.Tests.{as_number}
use Rattle.flat_circuit.specs.Words.{lane}

-- the number in a lane of some words: their bits there are its binary digits, lowest first
abbrev pub number_in : List ℕ → ℕ → ℕ
number_in [] k = 0
number_in (word ∷ words) k = as_number (lane word k) + 2 * number_in words k

-- For each group of 128 tests some words, in whose lanes the tests have their numbers: how many of
-- some classes a test detects.
pub record AreTallied (detects : ℕ → ℕ → Bool) (classes : List ℕ) (digits : ℕ)
    (groups : List (List ℕ)) : Type 0 where
  pub long : All (λ words. length words ≡ digits) groups
  pub each : (t : ℕ) → t / 128 < length groups
      → number_in (slice_index_or groups (t / 128) []) (t % 128)
      ≡ count_by (λ class. detects class t) classes
