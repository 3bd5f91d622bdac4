use Rattle.std.proofs.Common.{◌<◌, All, length}
use Rattle.bench_net.specs.Scan.{names}
use Rattle.flat_circuit.proofs.order_walk.starts_of.Given as goal

abbrev pub invariant-loop-place : goal.invariant-loop-place
invariant-loop-place l = All (λ signal. signal < length (names l.circuit)) l.starts.items
