use Rattle.std.{proofs.Common.{◌≡◌, ◌+◌, ℕ}, specs.Prelude.{Some, slice_get, vec_len}}
use Rattle.region_runs.proofs.open_classes.all_open.Given as goal

abbrev pub invariant-loop-place : goal.invariant-loop-place
invariant-loop-place l = record {
  count : vec_len l.next ≡ l.place;
  next : (p q : ℕ) → slice_get l.next.items p ≡ Some q → q ≡ p + 1;
}
