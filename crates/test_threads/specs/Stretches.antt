-- The tests of a part of a file's lines, as a thread returns them.
use Rattle.std.specs.Prelude.{◌≡◌, ℕ, ◌≤◌, List, Result, Some, IfOk, slice_get}
use Rattle.std.specs.List.{slice_range}
use Rattle.text_lines.specs.Starts.{IsLineStart}
use Rattle.patterns.specs.declared.TestFault.{TestFault}
use Rattle.test_threads.specs.declared.in_threads.Stretch.{Stretch}
use Rattle.patterns.specs.Tests.{TestList, HasTests}

-- the tests of the file from one place to another, at which a line begins
pub record AreTestsBetween (text : List ℕ) (width start end : ℕ) (t : TestList) : Type 0 where
  pub order : start ≤ end
  pub until : IsLineStart text end
  pub tests : HasTests (slice_range text start end) width t

-- the result of a thread has such tests, unless its lines have an error
abbrev pub HasStretch : List ℕ → ℕ → Result Stretch TestFault → Type 0
HasStretch text width part =
    IfOk part (λ own. AreTestsBetween text width own.start own.end own.tests)

-- each of several results has such tests
abbrev pub HaveStretches : List ℕ → ℕ → List (Result Stretch TestFault) → Type 0
HaveStretches text width parts = (i : ℕ) (part : Result Stretch TestFault)
    → slice_get parts i ≡ Some part → HasStretch text width part
