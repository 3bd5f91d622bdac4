use Rattle.std.{proofs.Common.{◌≡◌, ◌<◌, All, length}, specs.Prelude.IfSome}
use Rattle.flat_circuit.proofs.region_classes.join_circles.Given as goal

abbrev pub invariant-loop-class : goal.invariant-loop-class
invariant-loop-class l = record {
  stems : length l.last ≡ length l.fn.last;
  lasts : All (λ last. IfSome last (λ class. class < length l.stems)) l.last;
  count : length l.next ≡ length l.stems;
  within : All (λ class. class < length l.stems) l.next;
}
