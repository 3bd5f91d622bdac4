use Rattle.std.{proofs.Common.{◌≡◌, ℕ, vec_len}, specs.Prelude.{Some, slice_get}}
use Rattle.n_detect.specs.Detections.{IsClassCount}
use Rattle.n_detect.proofs.faults.by_fault.Given as goal

abbrev pub invariant-loop-fault : goal.invariant-loop-fault
invariant-loop-fault l = record {
  count : vec_len l.counts ≡ l.fault;
  each : (i n class : ℕ) → slice_get l.counts.items i ≡ Some n
      → slice_get l.run.whole.classes.class_of i ≡ Some class
      → IsClassCount l.run.whole l.most class n;
}
