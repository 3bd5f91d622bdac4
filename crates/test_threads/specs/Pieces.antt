-- Test files that threads read piece by piece, each into a buffer of its own.
use Rattle.std.specs.Prelude.{◌≡◌, ◌-◌, ◌+◌, ℕ, ◌<◌, ◌≤◌, List, [], ◌++◌, Bool, Option, Some, true}
use Rattle.std.specs.Prelude.{drop, length, option_map, slice_index, take}
use Rattle.std.specs.List.{slice_range}
use Rattle.std.specs.Io.KnownBytes.{Consumes, IsAtEnd}
use Rattle.text_lines.specs.Starts.{IsLineStart}
use Rattle.patterns.specs.Tests.{IsTestList, TestList}
use Rattle.test_threads.specs.Stretches.{AreTestsBetween}

-- The next bytes of a reader stand in a buffer from one place up to another, behind those that were
-- there. Only at the end of the reader is there room left.
pub record IsFilled (known left : Option (List ℕ)) (old new : List ℕ) (from end : ℕ) : Type 0 where
  pub added : List ℕ
  pub read : Consumes known left added
  pub within : end ≤ length new
  pub size : length new ≡ length old
  pub holds : take end new ≡ take from old ++ added
  pub all : end < length new → IsAtEnd left

-- at this place, past the first, a line has ended
pub record IsLineEnd (text : List ℕ) (place : ℕ) : Type 0 where
  pub some : 0 < place
  pub within : place ≤ length text
  pub feed : slice_index text (place - 1) ≡ 10

-- These bytes of a text, from a line on, were read, and a reader has those behind them left.
pub record IsOpenAt (text : List ℕ) (left : Option (List ℕ)) (rest : List ℕ) (place : ℕ)
    : Type 0 where
  pub within : place + length rest ≤ length text
  pub rest_is : slice_range text place (place + length rest) ≡ rest
  pub left_is : left ≡ Some (drop (place + length rest) text)
  pub starts : IsLineStart text place

-- the same, if the text is known
abbrev pub IsOpen : Option (List ℕ) → Option (List ℕ) → List ℕ → ℕ → Type 0
IsOpen known left rest place =
    (text : List ℕ) → known ≡ Some text → IsOpenAt text left rest place

-- A buffer has the lines of a text from one place to another at its front. After the last of them
-- the text ends.
pub record AreLinesAt (text buffer : List ℕ) (start end : ℕ) (last : Bool) : Type 0 where
  pub until : IsLineStart text end
  pub bytes : slice_range text start end ≡ take (end - start) buffer
  pub all : last ≡ true → end ≡ length text

-- the same, if the text is known
abbrev pub AreLines : Option (List ℕ) → List ℕ → ℕ → ℕ → Bool → Type 0
AreLines known buffer start end last =
    (text : List ℕ) → known ≡ Some text → AreLinesAt text buffer start end last

-- the bytes of a file, if what is left of it is known: some that were read, and the rest
abbrev pub text_of : List ℕ → Option (List ℕ) → Option (List ℕ)
text_of read left = option_map (λ more. read ++ more) left

-- no byte of a text is left, if the text is known
abbrev pub IsEnded : Option (List ℕ) → Option (List ℕ) → Type 0
IsEnded known left = (text : List ℕ) → known ≡ Some text → left ≡ Some []

-- a list of tests, and each has this width
abbrev pub AreRowsOf : ℕ → TestList → Type 0
AreRowsOf width t = (t.width ≡ width) × IsTestList t

-- Tests are those of the lines of a text from one place to another. After the last of them the text
-- ends.
pub record IsPieceOf (text : List ℕ) (width start end : ℕ) (last : Bool) (t : TestList)
    : Type 0 where
  pub tests : AreTestsBetween text width start end t
  pub all : last ≡ true → end ≡ length text

-- the same, if the text is known
abbrev pub IsPiece : Option (List ℕ) → ℕ → ℕ → ℕ → Bool → TestList → Type 0
IsPiece known width start end last t =
    (text : List ℕ) → known ≡ Some text → IsPieceOf text width start end last t
