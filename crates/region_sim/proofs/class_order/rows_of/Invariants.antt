use Rattle.std.proofs.Common.{◌≡◌, All, take}
use Rattle.block_sim.specs.Listed.{IsListed}
use Rattle.region_sim.specs.ClassOrder.{classes_of}
use Rattle.region_sim.proofs.class_order.rows_of.Given as goal

abbrev pub invariant-loop-class : goal.invariant-loop-class
invariant-loop-class l = record {
  same : classes_of l.rows.items ≡ take l.class-index l.classes;
  each : All (IsListed l.job) l.rows.items;
}
