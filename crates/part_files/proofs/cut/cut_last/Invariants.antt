use Rattle.std.proofs.Common.{◌≢◌, ◌<◌, ◌≤◌, ℕ, List, get_or, length}
use Rattle.part_files.proofs.cut.cut_last.Given as goal

-- the places so far lack the byte
pub record LacksFrom (byte : ℕ) (text : List ℕ) (at : ℕ) : Type 0 where
  pub within : at ≤ length text
  pub lacks : (k : ℕ) → at ≤ k → k < length text → get_or text k 0 ≢ byte

abbrev pub invariant-loop-at : goal.invariant-loop-at
invariant-loop-at l = LacksFrom l.byte l.text l.at

abbrev pub decreases-loop-at : goal.decreases-loop-at
decreases-loop-at l = l.at
