use Rattle.std.proofs.Common.{arith, refl, length, map}
use Rattle.bench_net.specs.{Rows.rows_before, Tables.signal_read}
use Rattle.bench_net.proofs.KeyRows.{sink_rows_are}
use Rattle.bench_net.proofs.sinks.sink_rows.Goals as goal

pub starts_of-requires-clause-below : goal.starts_of-requires-clause-below
starts_of-requires-clause-below c = rw (c.deref.ensures.value, c.in_ok-keys.ensures)
    (λ i d lt. omega (arith, c.requires.below i d lt))

pub returns : goal.returns
returns c =
    let starts = c.in_ok-starts.starts.items in
    let places = rows_before (map signal_read c.args.readers.now) (length starts) in
    sink_rows_are c.args.readers.now c.args.signals starts places c.in_ok-sinks.sinks.items
    (record {
      starts_count = c.in_ok-starts.ensures.len;
      starts_are =
          rw (c.deref.ensures.value, c.in_ok-keys.ensures) at c.in_ok-starts.ensures.starts;
      places_are = refl;
    }) (rw (c.in_ok-from_slice.ensures.items, c.deref-2.ensures.value) at c.in_ok-sinks.ensures)
