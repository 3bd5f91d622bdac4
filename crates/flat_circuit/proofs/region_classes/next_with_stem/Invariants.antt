use Rattle.std.proofs.Common.{◌≡◌, ◌<◌, All, length}
use Rattle.flat_circuit.proofs.region_classes.next_with_stem.Given as goal

abbrev pub invariant-loop-class : goal.invariant-loop-class
invariant-loop-class l = record {
  count : length l.next.items ≡ l.class;
  within : All (λ class. class < length l.stems) l.next.items;
}
