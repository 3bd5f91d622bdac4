use Rattle.std.proofs.Common.{◌≡◌, ◌<◌, ◌≤◌, ◌+◌, ℕ, get_or}
use Rattle.compaction.proofs.steepest.take_off.Given as goal

abbrev pub invariant-loop-place : goal.invariant-loop-place
invariant-loop-place l = record {
  done : (t : ℕ) → t < l.place
      → get_or l.numbers t 0 + get_or l.others t 0 ≡ get_or l.initial.numbers t 0;
  left : (t : ℕ) → l.place ≤ t → get_or l.numbers t 0 ≡ get_or l.initial.numbers t 0;
}
