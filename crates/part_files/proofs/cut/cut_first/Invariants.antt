use Rattle.std.proofs.Common.{◌≢◌, ◌<◌, ℕ, get_or}
use Rattle.part_files.proofs.cut.cut_first.Given as goal

-- the places so far lack the byte
abbrev pub invariant-loop-at : goal.invariant-loop-at
invariant-loop-at l = (k : ℕ) → k < l.at → get_or l.text k 0 ≢ l.byte
