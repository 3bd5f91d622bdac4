use Rattle.region_runs.proofs.ClassOrders.{AreOwnUpTo}
use Rattle.region_runs.proofs.class_order.of_part.Given as goal

abbrev pub invariant-loop-class : goal.invariant-loop-class
invariant-loop-class l = AreOwnUpTo l.job l.parts l.part l.classes l.class-index l.own.items
