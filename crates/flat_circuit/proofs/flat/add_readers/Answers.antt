use Rattle.std.proofs.Common.{◌≡◌, ◌≢◌, ℕ, ◌∙◌, [], ◌∷◌, ◌++◌, ap, arith, refl, sym, subst, ◌+◌}
use Rattle.std.{proofs.lemmas.Bool.false≢true, specs.Prelude.{map, slice_index_or}}
use Rattle.std.proofs.lemmas.List.{append_assoc, append-nil, map-append}
use Rattle.bench_net.specs.declared.Sink.TheVariants as sink
use Rattle.bench_net.specs.Scan.{names}
use Rattle.list_lemmas.proofs.Places.{within_place}
use Rattle.fault_model.specs.Reordered.{in_order, place}
use Rattle.flat_circuit.proofs.Flats.{gathered_none, gathered_passed, gathered_dead, gathered_more}
use Rattle.flat_circuit.proofs.{Flats.gathered_all, ArrangedRows.readers_moved}
use Rattle.flat_circuit.proofs.{ArrangedSignals.reordered, Readers.reader_within}
use Rattle.flat_circuit.proofs.ReorderedReaders.{same_readers}
use Rattle.flat_circuit.proofs.ObservedSinks.{HasObserver, observer_none, sink_gate}
use Rattle.flat_circuit.proofs.ObservedSinks.{observer_passed, observer_found, observer_all}
use Rattle.flat_circuit.proofs.flat.add_readers.Goals.{
  in-Pin+else-not-placed-gate+in_ok-push-in-Pin,
}
use Rattle.flat_circuit.proofs.flat.add_readers.Goals.{in-Data, in-Out}
use Rattle.flat_circuit.proofs.flat.add_readers.Goals as goal

pub loop-sink-init : goal.loop-sink-init
loop-sink-init c = record {
  more = [];
  is = sym (append-nil c.args.readers.now.items);
  gathered = gathered_none c.args.placed.circuit.now c.args.signal c.sinks_of-sink-items.result.now;
  observer = observer_none c.args.placed.circuit.now c.args.signal c.sinks_of-sink-items.result.now;
}

pub bounds-placed-gate : goal.bounds-placed-gate
bounds-placed-gate c =
    let circuit = c.args.placed.circuit.now in
    let n = within_place (names circuit) c.args.signal c.requires.signal in
    let reads = sink_gate circuit c.requires.placed.circuit.well_formed c.args.signal n.0 n.1
    c.sinks_of-sink-items.result.now (c.sinks_of-sink-items.ensures n.0 n.1)
    c.loop-sink.sink-index c.in-Pin.gate c.in-Pin.pin (sink.Pin 0 0) c.loop-sink-test.true
    c.in-Pin.is in
    let lt = reader_within circuit c.in-Pin.gate c.args.signal reads in
    omega (arith, lt, c.requires.placed.live_room)

pub bounds-placed-gate-in-Pin : goal.bounds-placed-gate-in-Pin
bounds-placed-gate-in-Pin c =
    let circuit = c.args.placed.circuit.now in
    let n = within_place (names circuit) c.args.signal c.requires.signal in
    let reads = sink_gate circuit c.requires.placed.circuit.well_formed c.args.signal n.0 n.1
    c.sinks_of-sink-items.result.now (c.sinks_of-sink-items.ensures n.0 n.1)
    c.loop-sink.sink-index c.in-Pin.gate c.in-Pin.pin (sink.Pin 0 0) c.loop-sink-test.true
    c.in-Pin.is in
    let lt = reader_within circuit c.in-Pin.gate c.args.signal reads in
    omega (arith, lt, c.requires.placed.room)

pub loop-sink-preserved-then-not-placed-gate : goal.loop-sink-preserved-then-not-placed-gate
loop-sink-preserved-then-not-placed-gate c =
    let circuit = c.args.placed.circuit.now in
    let well = c.requires.placed.circuit.well_formed in
    let s = c.args.signal in
    let n = within_place (names circuit) s c.requires.signal in
    let items = c.sinks_of-sink-items.result.now in
    let are = c.sinks_of-sink-items.ensures n.0 n.1 in
    let i = c.loop-sink.sink-index in
    let gate = c.in-Pin.gate in
    let reads = sink_gate circuit well s n.0 n.1 items are i gate c.in-Pin.pin
    (sink.Pin 0 0) c.loop-sink-test.true c.in-Pin.is in
    record {
      more = c.loop-sink.invariant.more;
      is = c.loop-sink.invariant.is;
      gathered = gathered_dead circuit well s n.0 n.1 items are i c.loop-sink.invariant.more
          c.loop-sink.invariant.gathered gate c.in-Pin.pin (sink.Pin 0 0) c.loop-sink-test.true
          c.in-Pin.is (λ live. false≢true (sym c.if-not-placed-gate.true
          ∙ (c.requires.placed.alive gate (reader_within circuit gate s reads)).1 live));
      observer = observer_passed circuit well s n.0 n.1 items are i gate c.in-Pin.pin
          (sink.Pin 0 0) c.loop-sink.observed c.loop-sink-test.true c.in-Pin.is
          c.loop-sink.invariant.observer;
    }

pub loop-sink-preserved : goal.loop-sink-preserved
loop-sink-preserved c =
    let circuit = c.args.placed.circuit.now in
    let well = c.requires.placed.circuit.well_formed in
    let s = c.args.signal in
    let n = within_place (names circuit) s c.requires.signal in
    let items = c.sinks_of-sink-items.result.now in
    let are = c.sinks_of-sink-items.ensures n.0 n.1 in
    let i = c.loop-sink.sink-index in
    let more = c.loop-sink.invariant.more in
    let before = c.loop-sink.invariant.gathered in
    let there = in_order circuit c.args.placed.order.now in
    elim c.match-sink.branch [
      | in-Pin+else-not-placed-gate+in_ok-push-in-Pin w ↦
          let reads = sink_gate circuit well s n.0 n.1 items are i w.in-Pin.gate w.in-Pin.pin
          (sink.Pin 0 0) c.loop-sink-test.true w.in-Pin.is in
          let gate = w.in-Pin.gate in
          let moved = slice_index_or c.args.placed.places.now gate 0 in
          let placed : moved ≡ place circuit there gate =
          c.requires.placed.placed gate (reader_within circuit gate s reads) in
          record {
            more = more ++ gate ∷ [];
            is = ap (λ r. r.items) w.readers-is ∙ (w.in_ok-push-in-Pin.ensures.items
                ∙ (ap (λ l. l ++ moved ∷ []) c.loop-sink.invariant.is
                ∙ (append_assoc c.args.readers.now.items (map (place circuit there) more)
                (moved ∷ []) ∙ ap (λ l. c.args.readers.now.items ++ l)
                (ap (λ r. map (place circuit there) more ++ r ∷ []) placed
                ∙ sym (map-append (place circuit there) more (gate ∷ []))))));
            gathered = gathered_more circuit well s n.0 n.1 items are i more before gate
                w.in-Pin.pin (sink.Pin 0 0) c.loop-sink-test.true w.in-Pin.is reads
                ((c.requires.placed.alive gate (reader_within circuit gate s reads)).0
                w.if-not-placed-gate.false);
            observer = subst (HasObserver circuit s items (i + 1)) (sym w.observed-is)
                (observer_passed circuit well s n.0 n.1 items are i gate w.in-Pin.pin
                (sink.Pin 0 0) c.loop-sink.observed c.loop-sink-test.true w.in-Pin.is
                c.loop-sink.invariant.observer);
          }
      | in-Data w ↦
          let isnt : (gate pin : ℕ) → sink.Data w.in-Data.cell ≢ sink.Pin gate pin =
          λ gate pin e. cc in
          record {
            more = more;
            is = ap (λ r. r.items) w.readers-is ∙ c.loop-sink.invariant.is;
            gathered = gathered_passed circuit well s n.0 n.1 items are i more before
                (sink.Data w.in-Data.cell) (sink.Pin 0 0) c.loop-sink-test.true w.in-Data.is isnt;
            observer = subst (HasObserver circuit s items (i + 1)) (sym w.observed-is)
                (observer_found circuit well s n.0 n.1 items are i (sink.Data w.in-Data.cell)
                (sink.Pin 0 0) c.loop-sink-test.true w.in-Data.is isnt);
          }
      | in-Out w ↦
          let isnt : (gate pin : ℕ) → sink.Out w.in-Out.output ≢ sink.Pin gate pin =
          λ gate pin e. cc in
          record {
            more = more;
            is = ap (λ r. r.items) w.readers-is ∙ c.loop-sink.invariant.is;
            gathered = gathered_passed circuit well s n.0 n.1 items are i more before
                (sink.Out w.in-Out.output) (sink.Pin 0 0) c.loop-sink-test.true w.in-Out.is isnt;
            observer = subst (HasObserver circuit s items (i + 1)) (sym w.observed-is)
                (observer_found circuit well s n.0 n.1 items are i (sink.Out w.in-Out.output)
                (sink.Pin 0 0) c.loop-sink-test.true w.in-Out.is isnt);
          }
    ]

pub returns-clause-readers : goal.returns-clause-readers
returns-clause-readers c =
    let circuit = c.args.placed.circuit.now in
    let well = c.requires.placed.circuit.well_formed in
    let order = c.args.placed.order.now in
    let there = in_order circuit order in
    let more = c.loop-sink.invariant.more in
    let n = within_place (names circuit) c.args.signal c.requires.signal in (
      map (place circuit there) more,
      c.loop-sink.invariant.is,
      readers_moved circuit there well
          (reordered circuit there well (order, c.requires.placed.ordered, refl)) c.args.signal more
          (gathered_all circuit well c.args.signal n.0 n.1
          c.sinks_of-sink-items.result.now (c.sinks_of-sink-items.ensures n.0 n.1)
          c.loop-sink.sink-index more c.loop-sink.invariant.gathered c.loop-sink-test.false),
    )

pub returns-clause-observed : goal.returns-clause-observed
returns-clause-observed c =
    let circuit = c.args.placed.circuit.now in
    let well = c.requires.placed.circuit.well_formed in
    let order = c.args.placed.order.now in
    let there = in_order circuit order in
    let n = within_place (names circuit) c.args.signal c.requires.signal in
    let own = observer_all circuit well c.args.signal n.0 n.1
    c.sinks_of-sink-items.result.now (c.sinks_of-sink-items.ensures n.0 n.1) c.loop-sink.sink-index
    c.loop-sink.observed c.loop-sink-test.false c.loop-sink.invariant.observer in
    let moved = (same_readers circuit there well
    (reordered circuit there well (order, c.requires.placed.ordered, refl))).observed c.args.signal
    in (λ e. moved.0 (own.0 e), λ o. own.1 (moved.1 o))
