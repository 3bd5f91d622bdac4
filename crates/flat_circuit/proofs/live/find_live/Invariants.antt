use Rattle.std.proofs.Common.{◌≡◌, length}
use Rattle.bench_net.specs.Scan.{names}
use Rattle.flat_circuit.proofs.LiveSignals.{LiveFrom}
use Rattle.flat_circuit.proofs.live.find_live.Given as goal

abbrev pub invariant-loop-place : goal.invariant-loop-place
invariant-loop-place l = record {
  room : length l.live ≡ length (names l.circuit);
  known : LiveFrom l.circuit l.order l.live l.place;
}
