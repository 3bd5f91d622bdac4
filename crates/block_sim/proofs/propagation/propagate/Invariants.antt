use Rattle.std.proofs.Common.{◌≤◌, ◌-◌, length}
use Rattle.bench_net.specs.Scan.{names}
use Rattle.block_sim.specs.{PropagationState.IsAsLarge, Moments.{Leads, moment}}
use Rattle.block_sim.specs.Propagation.{LeavesSettled}
use Rattle.block_sim.proofs.propagation.propagate.Given as goal

abbrev pub invariant-loop-gate : goal.invariant-loop-gate
invariant-loop-gate l = record {
  room : IsAsLarge l.initial.changes l.changes;
  settled : LeavesSettled l.extent l.view.lanes l.found.followed l.found.detected;
  leads : Leads l.view.circuit.now.arranged l.view.good.now l.view.lanes
      (moment l.initial.changes l.start l.initial.found.followed l.initial.found.detected)
      (moment l.changes l.from l.found.followed l.found.detected);
  within : l.from ≤ length (names l.view.circuit.now.arranged);
}

abbrev pub decreases-loop-gate : goal.decreases-loop-gate
decreases-loop-gate l = length (names l.view.circuit.now.arranged) - l.from
