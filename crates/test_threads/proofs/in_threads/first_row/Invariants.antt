use Rattle.std.proofs.Common.{length, ◌-◌, ◌≤◌}
use Rattle.test_threads.proofs.in_threads.first_row.Given as goal

abbrev pub invariant-loop-place : goal.invariant-loop-place
invariant-loop-place l = l.place ≤ length l.text

abbrev pub decreases-loop-place : goal.decreases-loop-place
decreases-loop-place l = length l.text - l.place
