-- The layout of the words of tests: for each block of 64 tests a word for each source, in which bit
-- k is the bit of the block's test k.
use Rattle.std.specs.Prelude.{◌≡◌, ℕ, ◌+◌, ◌*◌, ◌/◌, ◌%◌, ◌<◌, ◌≤◌, All, Bool, ◌==◌, List, [], map}
use Rattle.std.specs.Prelude.{length, slice_index, slice_index_or}
use Rattle.std.specs.Int.{bit_at}
use Rattle.patterns.specs.Tests.{max_tests, blocks}
use Rattle.patterns.specs.Least.{below}

-- the word of a block at a source
abbrev pub word_at : List (List ℕ) → ℕ → ℕ → ℕ
word_at words block source = slice_index (slice_index_or words block []) source

-- the bit of a test at a source
abbrev pub bit_of : List (List ℕ) → ℕ → ℕ → Bool
bit_of words test source = bit_at (word_at words (test / 64) source) (test % 64) == 1

-- the tests that the words hold
unfoldable pub tests_of : ℕ → ℕ → List (List ℕ) → List (List Bool)
tests_of width count words = map (λ test. map (λ source. bit_of words test source) (below width))
    (below count)

-- the words of this number of tests of this width, within the limit, with 0 for each bit past the
-- last test
pub record AreWords (width count : ℕ) (words : List (List ℕ)) : Type 0 where
  pub limit : count ≤ max_tests
  pub block_count : length words ≡ blocks count
  pub each : All (λ block. length block ≡ width) words
  pub idle : (block source k : ℕ) → count ≤ 64 * block + k → k < 64
      → bit_at (word_at words block source) k ≡ 0

-- the words with room for one more test: a block of zeros more, if the last was full
pub record HaveRoom (width count : ℕ) (old words : List (List ℕ)) : Type 0 where
  pub block_count : length words ≡ blocks (count + 1)
  pub each : All (λ block. length block ≡ width) words
  pub same : (block source : ℕ) → word_at words block source ≡ word_at old block source
