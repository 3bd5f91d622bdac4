use Rattle.std.proofs.Common.{◌≡◌, ◌<◌, ◌+◌, All, length}
use Rattle.bench_net.specs.Scan.{names}
use Rattle.flat_circuit.proofs.Keys.{HaveFirstKeys}
use Rattle.flat_circuit.proofs.signal_order.raise_keys.Given as goal

abbrev pub invariant-loop-place : goal.invariant-loop-place
invariant-loop-place l = record {
  room : length l.keys ≡ length (names l.circuit);
  low : All (λ key. key < length (names l.circuit) + l.place + 1) l.keys;
  known : HaveFirstKeys l.circuit l.order l.keys l.place;
}
