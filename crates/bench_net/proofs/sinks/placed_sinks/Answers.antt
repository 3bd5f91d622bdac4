use Rattle.std.proofs.{Common.{◌≡◌, arith, length, map}, lemmas.List.length-map}
use Rattle.bench_net.specs.{declared.Sink.TheVariants.Out, Tables.{reader_at, signal_read}}
use Rattle.bench_net.proofs.KeyRows.{spot, placing_more, all_placed, key_at}
use Rattle.bench_net.proofs.sinks.placed_sinks.Goals as goal

pub index-spot-requires : goal.index-spot-requires
index-spot-requires c =
    let place = c.loop-reader.reader-index in
    let key = key_at c.args.readers.now _ place c.requires.below (omega arith) in
    omega (arith, key.1, c.loop-reader.invariant.next_count)

pub index_mut-requires : goal.index_mut-requires
index_mut-requires c =
    let place = c.loop-reader.reader-index in
    let key = key_at c.args.readers.now _ place c.requires.below (omega arith) in
    let at = spot c.requires.starts c.loop-reader.invariant _ _ key.2 key.0 key.1
    c.index-spot.ensures in
    omega (arith, c.loop-reader.invariant.items_count, at.0)

pub overflow_add-spot : goal.overflow_add-spot
overflow_add-spot c =
    let place = c.loop-reader.reader-index in
    let key = key_at c.args.readers.now _ place c.requires.below (omega arith) in
    let at = spot c.requires.starts c.loop-reader.invariant _ _ key.2 key.0 key.1
    c.index-spot.ensures in
    let count = length-map c.args.readers.now signal_read in
    omega (arith, count, c.requires.few, at.0)

pub index_mut-requires-in-loop-reader : goal.index_mut-requires-in-loop-reader
index_mut-requires-in-loop-reader c =
    let place = c.loop-reader.reader-index in
    let key = key_at c.args.readers.now _ place c.requires.below (omega arith) in
    omega (arith, key.1, c.loop-reader.invariant.next_count)

pub loop-reader-preserved : goal.loop-reader-preserved
loop-reader-preserved c =
    let place = c.loop-reader.reader-index in
    let key = key_at c.args.readers.now _ place c.requires.below (omega arith) in
    placing_more c.requires.starts c.loop-reader.invariant _ _ key.2 key.0 key.1
    c.index-spot.ensures

pub returns : goal.returns
returns c =
    let count = length-map c.args.readers.now signal_read in
    let end : c.loop-reader.reader-index ≡ length (map signal_read c.args.readers.now) =
    omega (arith, count) in
    all_placed (λ place. (reader_at c.args.readers.now place).sink) (Out 0) _ _ _ _
    c.requires.starts (rw end at c.loop-reader.invariant)
