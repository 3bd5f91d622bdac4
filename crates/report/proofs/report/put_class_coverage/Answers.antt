use Rattle.std.proofs.Common.{◌<◌, false, arith, length}
use Rattle.bench_net.proofs.Public.{some_signal}
use Rattle.report.proofs.ClassFirsts.{some_class}
use Rattle.report.proofs.report.put_class_coverage.Goals as goal

pub prove-unreachable-requires : goal.prove-unreachable-requires
prove-unreachable-requires g c =
    let job = c.args.job.now in
    let together = c.classes-classes.ensures.together in
    let has = c.stems.ensures job.list.model job.circuit 0 false
    (some_signal job.circuit together.circuit.well_formed) in
    let some : 0 < length job.classes.representative =
    some_class job.list.model job.circuit job.classes _ has together.classes in
    let count = rw (c.classes-classes.ensures.part) at c.count-total.ensures in
    omega (arith, some, count, c.if-prove.true)
