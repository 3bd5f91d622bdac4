use Rattle.std.proofs.Common.{arith, ap, length}
use Rattle.bench_net.{specs.Scan.{names, sources}, proofs.CircuitTables.few_sources}
use Rattle.bench_net.proofs.StuckSets.{some_source}
use Rattle.bench_net.proofs.circuit.Circuit.sources.Goals as goal

pub overflow_cast-result : goal.overflow_cast-result
overflow_cast-result c =
    let few = few_sources c.args.self.now in
    let wide = ap (λ s. length (sources s)) c.self.view_is in
    let named = ap (λ s. length (names s)) c.self.view_is in
    let small = c.self.invariant.circuit.signals in
    omega (arith, c.self.invariant.source_count, few, wide, named, small)

pub returns-clause-count : goal.returns-clause-count
returns-clause-count c =
    let wide = ap (λ s. length (sources s)) c.self.view_is in
    omega (arith, c.self.invariant.source_count, wide)

pub returns-clause-some : goal.returns-clause-some
returns-clause-some c =
    omega (arith, c.self.invariant.source_count, some_source _ c.self.invariant.circuit)
