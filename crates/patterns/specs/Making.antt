-- Tests that are made of words or of bits, the errors of either, and the text of tests.
use Rattle.std.specs.Prelude.{◌≡◌, ◌≢◌, ℕ, ◌+◌, ◌*◌, ◌^◌, ◌<◌, ◌≤◌, Bool, List, [], ◌∷◌, ◌++◌, map}
use Rattle.std.specs.Prelude.{length, slice_index, if◌then◌else◌}
use Rattle.std.specs.List.{flat_map}
use Rattle.patterns.specs.Tests.{TestList, IsWord, blocks, size_of, max_tests}
use Rattle.patterns.specs.declared.WordsFault.{WordsFault}
use Rattle.patterns.specs.declared.WordsFault.TheVariants as words_fault
use Rattle.patterns.specs.declared.PushFault.{PushFault}
use Rattle.patterns.specs.declared.PushFault.TheVariants as push_fault

-- the word of a block at a source, among words that stand block after block, one a source
abbrev pub word_of : ℕ → List ℕ → ℕ → ℕ → ℕ
word_of width words block source = slice_index words (width * block + source)

-- this number of tests of this width, with these words: for each block one a source
pub record IsMadeOf (width count : ℕ) (words : List ℕ) (t : TestList) : Type 0 where
  pub same_width : t.width ≡ width
  pub same_count : length t.tests ≡ count
  pub word_count : length words ≡ width * blocks count
  pub each : (block source : ℕ) → block < blocks count → source < width
      → IsWord t.tests block source (word_of width words block source)

-- the word of the source in some block has a bit past the last test
abbrev pub HasIdleBit : ℕ → ℕ → List ℕ → ℕ → Type 0
HasIdleBit width count words source =
    (block : ℕ) × (block < blocks count)
    × (2 ^ size_of count block ≤ word_of width words block source)

-- the source is the first whose word has such a bit
abbrev pub IsFirstIdle : ℕ → ℕ → List ℕ → ℕ → Type 0
IsFirstIdle width count words source = (source < width) × HasIdleBit width count words source
    × ((lower : ℕ) → lower < source → ¬ HasIdleBit width count words lower)

-- The error of the words: too many tests; else their number; else the first source with a bit past
-- the last test.
abbrev pub IsWordsRefusal : ℕ → ℕ → List ℕ → WordsFault → Type 0
IsWordsRefusal width count words words_fault.TooMany = max_tests < count
IsWordsRefusal width count words words_fault.BadCount =
    (count ≤ max_tests) × (length words ≢ width * blocks count)
IsWordsRefusal width count words (words_fault.IdleBits source) =
    (count ≤ max_tests) × (length words ≡ width * blocks count)
    × IsFirstIdle width count words source
IsWordsRefusal width count words words_fault.Memory = ⊥

-- The error of one more test: no room for it, else its number of bits.
abbrev pub IsPushRefusal : TestList → List Bool → PushFault → Type 0
IsPushRefusal t row push_fault.TooMany = max_tests ≤ length t.tests
IsPushRefusal t row push_fault.BadWidth = (length t.tests < max_tests) × (length row ≢ t.width)
IsPushRefusal t row push_fault.Memory = ⊥

-- with one more test after the others
abbrev pub with_test : TestList → List Bool → TestList
with_test t row = record { width = t.width; tests = t.tests ++ row ∷ [] }

-- the row of a test: `1` for true and `0` for false, and a line feed
abbrev pub digit : Bool → ℕ
digit bit = if bit then 49 else 48

abbrev pub row_text : List Bool → List ℕ
row_text test = map digit test ++ 10 ∷ []

-- the text of tests: their rows, one after another
abbrev pub test_text : List (List Bool) → List ℕ
test_text tests = flat_map row_text tests
