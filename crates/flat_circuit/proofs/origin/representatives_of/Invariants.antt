use Rattle.std.proofs.Common.{◌≡◌, length}
use Rattle.flat_circuit.specs.Origins.{HaveRepresentatives}
use Rattle.flat_circuit.proofs.origin.representatives_of.Given as goal

abbrev pub invariant-loop-class : goal.invariant-loop-class
invariant-loop-class l = record {
  count : length l.stucks.items ≡ l.class;
  known : HaveRepresentatives l.list.model l.circuit l.stucks.items;
}
