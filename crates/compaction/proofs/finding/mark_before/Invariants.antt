use Rattle.std.{proofs.Common.{◌≡◌, ◌<◌, ◌≤◌, ◌+◌, ℕ, false, get_or}, specs.Prelude.◌||◌}
use Rattle.compaction.proofs.finding.mark_before.Given as goal

abbrev pub invariant-loop-place : goal.invariant-loop-place
invariant-loop-place l = record {
  done : (t : ℕ) → t + 1 < l.place → get_or l.marks t false
      ≡ (get_or l.initial.marks t false || get_or l.initial.marks (t + 1) false);
  left : (t : ℕ) → l.place ≤ t + 1 → get_or l.marks t false ≡ get_or l.initial.marks t false;
}
