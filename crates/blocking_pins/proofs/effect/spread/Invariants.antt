use Rattle.std.proofs.Common.{◌≡◌, ◌≤◌, ◌-◌, length}
use Rattle.bench_net.specs.Scan.{names}
use Rattle.flat_circuit.specs.Stuck.{stuck_fault}
use Rattle.blocking_pins.specs.Effects.{IsSpreading}
use Rattle.blocking_pins.proofs.effect.spread.Given as goal

abbrev pub invariant-loop-place : goal.invariant-loop-place
invariant-loop-place l = record {
  spreading : IsSpreading l.view.circuit.now.arranged (stuck_fault l.fault) l.view.good.now
      l.view.lanes l.effect.overlay l.effect.waiting l.effect.reached.items l.from;
  overlay : length l.effect.overlay ≡ length l.initial.effect.overlay;
  waiting : length l.effect.waiting ≡ length l.initial.effect.waiting;
  within : l.from ≤ length (names l.view.circuit.now.arranged);
}

abbrev pub decreases-loop-place : goal.decreases-loop-place
decreases-loop-place l = length (names l.view.circuit.now.arranged) - l.from
