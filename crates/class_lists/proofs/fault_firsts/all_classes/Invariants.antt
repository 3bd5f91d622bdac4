use Rattle.std.{proofs.Common.{◌≡◌, ℕ}, specs.Prelude.{Some, slice_get, vec_len}}
use Rattle.class_lists.proofs.fault_firsts.all_classes.Given as goal

abbrev pub invariant-loop-class : goal.invariant-loop-class
invariant-loop-class l = record {
  count : vec_len l.all ≡ l.class;
  each : (place class : ℕ) → slice_get l.all.items place ≡ Some class → class ≡ place;
}
