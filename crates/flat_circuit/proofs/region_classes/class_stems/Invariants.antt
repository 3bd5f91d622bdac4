use Rattle.std.proofs.Common.{◌≡◌, length}
use Rattle.flat_circuit.specs.Regions.{HaveStems}
use Rattle.flat_circuit.proofs.region_classes.class_stems.Given as goal

abbrev pub invariant-loop-class : goal.invariant-loop-class
invariant-loop-class l = record {
  count : length l.class_stems.items ≡ l.class;
  known : HaveStems l.faults.model l.circuit l.class_stems.items;
}
