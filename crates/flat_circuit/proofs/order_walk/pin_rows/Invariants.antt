use Rattle.std.proofs.Common.{◌<◌, All, length}
use Rattle.bench_net.specs.Scan.{names}
use Rattle.flat_circuit.proofs.order_walk.pin_rows.Given as goal

abbrev pub invariant-loop-signal : goal.invariant-loop-signal
invariant-loop-signal l = All (λ pin. pin < length (names l.circuit)) l.pins.items
