use Rattle.std.proofs.Common.{◌≡◌, length}
use Rattle.bench_net.specs.Scan.{names}
use Rattle.flat_circuit.specs.SignalOrder.{IsWalk}
use Rattle.flat_circuit.proofs.order_walk.walk_ranks.Given as goal

abbrev pub invariant-loop-step : goal.invariant-loop-step
invariant-loop-step l = record {
  count : length l.walk.ranks.items ≡ length (names l.circuit);
  walks : IsWalk (length l.walk.ranks.items) l.walk;
}
