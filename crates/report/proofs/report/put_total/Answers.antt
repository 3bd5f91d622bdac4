use Rattle.std.proofs.Common.{arith}
use Rattle.bench_net.proofs.Public.{some_signal}
use Rattle.report.proofs.report.put_total.Goals as goal

pub prove-unreachable-requires : goal.prove-unreachable-requires
prove-unreachable-requires g c = let some =
    some_signal c.circuit.result.now c.signals-signals.ensures.circuit.well_formed in
    omega (arith, some)

pub returns : goal.returns
returns g c = rw (← c.total-total.ensures, ← c.detected-detected.ensures) c.put_coverage.ensures
