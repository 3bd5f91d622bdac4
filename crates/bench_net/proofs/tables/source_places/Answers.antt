use Rattle.std.proofs.Common.{◌≡◌, length, arith}
use Rattle.bench_net.proofs.LineTables.{places_more}
use Rattle.bench_net.proofs.tables.source_places.Goals as goal

pub loop-place-preserved : goal.loop-place-preserved
loop-place-preserved c =
    places_more c.args.sources.now c.args.signals c.loop-place.place c.loop-place.places.items
    c.loop-place.invariant

pub returns : goal.returns
returns c =
    let end : c.loop-place.place ≡ length c.args.sources.now = omega arith in
    rw end at c.loop-place.invariant
