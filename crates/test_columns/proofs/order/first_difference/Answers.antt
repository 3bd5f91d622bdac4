use Rattle.std.proofs.{Common.{arith, map}, lemmas.List.length-map}
use Rattle.bench_net.specs.Scan.{sources}
use Rattle.test_columns.proofs.Named.{same_names}
use Rattle.test_columns.proofs.order.first_difference.Goals as goal

pub returns-clause-none : goal.returns-clause-none
returns-clause-none c =
    let names = c.args.names.now in
    let count = length-map names (λ name. name.now) in
    let most = c.max-most.ensures in
    let width = c.sources.ensures.count in
    let end = c.loop-place-test.false in
    same_names (map (λ name. name.now) names) (sources c.args.circuit.now) c.loop-place.place
    (omega (arith, count, most, end)) (omega (arith, most, width, end)) c.loop-place.invariant
