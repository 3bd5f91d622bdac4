use Rattle.std.{proofs.Common.{◌≡◌, ◌+◌, ◌<◌, ℕ, length}, specs.Prelude.{Some, slice_get}}
use Rattle.region_runs.proofs.open_classes.follow_all.Given as goal

abbrev pub invariant-loop-place : goal.invariant-loop-place
invariant-loop-place l = record {
  count : length l.next ≡ length l.fn.next;
  next : (p q : ℕ) → p < l.place → slice_get l.next p ≡ Some q → q ≡ p + 1;
}
