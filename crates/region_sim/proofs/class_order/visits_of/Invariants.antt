use Rattle.std.proofs.Common.{◌<◌, All, length}
use Rattle.bench_net.specs.Scan.{names}
use Rattle.region_sim.specs.ClassOrder.{AreVisitsTo}
use Rattle.region_sim.proofs.class_order.visits_of.Given as goal

abbrev pub invariant-loop-class : goal.invariant-loop-class
invariant-loop-class l = record {
  within : All (λ visit. visit < length (names l.job.circuit)) l.visits.items;
  are : AreVisitsTo l.job l.places l.class l.visits.items;
}
