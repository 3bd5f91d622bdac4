use Rattle.std.proofs.Common.{◌≡◌, List, ℕ, Some, is_some, length, take, true}
use Rattle.text_lines.specs.Starts.{IsLineStart}
use Rattle.patterns.specs.Tests.{HasTests}
use Rattle.test_threads.specs.Pieces.{AreRowsOf}
use Rattle.test_threads.proofs.in_pieces.join_pieces.Given as goal

-- the tests are those of the lines before the place, which is the end behind the last piece
abbrev pub invariant-loop-piece : goal.invariant-loop-piece
invariant-loop-piece g l = record {
  rows : AreRowsOf l.width l.all;
  tests : (text : List ℕ) → g.T.TestFile.text ≡ Some text
      → HasTests (take l.place text) l.width l.all;
  starts : (text : List ℕ) → g.T.TestFile.text ≡ Some text → IsLineStart text l.place;
  ended : (text : List ℕ) → g.T.TestFile.text ≡ Some text → is_some l.last ≡ true
      → l.place ≡ length text;
}
