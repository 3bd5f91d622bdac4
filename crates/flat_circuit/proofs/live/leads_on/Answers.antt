use Rattle.std.proofs.{Common.{refl, inl, inr, sym, ◌∙◌, arith}, lemmas.Bool.false≢true}
use Rattle.bench_net.specs.declared.Sink.TheVariants as sink
use Rattle.bench_net.specs.Scan.{names}
use Rattle.list_lemmas.proofs.Places.{within_place}
use Rattle.flat_circuit.{specs.Readers.IsLive, proofs.LiveSignals.live_by_observer}
use Rattle.flat_circuit.proofs.LiveSignals.{dead_all, dead_more, dead_none, live_by_gate}
use Rattle.flat_circuit.proofs.{Readers.reader_within, ObservedSinks.sink_gate}
use Rattle.flat_circuit.proofs.live.leads_on.Goals.{in-Pin, in-Data}
use Rattle.flat_circuit.proofs.live.leads_on.Goals as goal

pub loop-sink-init : goal.loop-sink-init
loop-sink-init c = dead_none c.args.circuit.now c.sinks_of-sink-items.result.now

pub bounds-live-gate : goal.bounds-live-gate
bounds-live-gate c =
    let circuit = c.args.circuit.now in
    let n = within_place (names circuit) c.args.signal c.requires.signal in
    let reads = sink_gate circuit c.requires.circuit.well_formed c.args.signal n.0 n.1
    c.sinks_of-sink-items.result.now (c.sinks_of-sink-items.ensures n.0 n.1)
    c.loop-sink.sink-index c.in-Pin.gate c.in-Pin.pin (sink.Pin 0 0) c.loop-sink-test.true
    c.in-Pin.is in
    let lt = reader_within circuit c.in-Pin.gate c.args.signal reads in
    omega (arith, lt, c.requires.room)

pub returns-then-is_live : goal.returns-then-is_live
returns-then-is_live c =
    let circuit = c.args.circuit.now in
    let well = c.requires.circuit.well_formed in
    let s = c.args.signal in
    let n = within_place (names circuit) s c.requires.signal in
    let items = c.sinks_of-sink-items.result.now in
    let are = c.sinks_of-sink-items.ensures n.0 n.1 in
    let i = c.loop-sink.sink-index in
    let live : IsLive circuit s = elim c.match-sink.branch [
      | in-Pin w ↦
          let reads = sink_gate circuit well s n.0 n.1 items are i w.in-Pin.gate w.in-Pin.pin
          (sink.Pin 0 0) c.loop-sink-test.true w.in-Pin.is in
          live_by_gate circuit well s n.0 n.1 items are i w.in-Pin.gate w.in-Pin.pin
          (sink.Pin 0 0) c.loop-sink-test.true w.in-Pin.is
          ((c.requires.readers w.in-Pin.gate reads).0 (sym w.is_live-is ∙ c.if-is_live.true))
      | in-Data w ↦ elim w.in-Data.is [
        | inl x ↦ live_by_observer circuit well s n.0 n.1 items are i (sink.Data x.0)
            (sink.Pin 0 0) c.loop-sink-test.true x.1 (λ gate pin e. cc)
        | inr x ↦ live_by_observer circuit well s n.0 n.1 items are i (sink.Out x.0)
            (sink.Pin 0 0) c.loop-sink-test.true x.1 (λ gate pin e. cc)
      ]
    ] in
    (λ t. live, λ l. refl)

pub loop-sink-preserved : goal.loop-sink-preserved
loop-sink-preserved c =
    let circuit = c.args.circuit.now in
    let well = c.requires.circuit.well_formed in
    let s = c.args.signal in
    let n = within_place (names circuit) s c.requires.signal in
    let items = c.sinks_of-sink-items.result.now in
    let are = c.sinks_of-sink-items.ensures n.0 n.1 in
    let i = c.loop-sink.sink-index in
    elim c.match-sink.branch [
      | in-Pin w ↦
          let reads = sink_gate circuit well s n.0 n.1 items are i w.in-Pin.gate w.in-Pin.pin
          (sink.Pin 0 0) c.loop-sink-test.true w.in-Pin.is in
          dead_more circuit well s n.0 n.1 items are i w.in-Pin.gate w.in-Pin.pin
          (sink.Pin 0 0) c.loop-sink-test.true w.in-Pin.is
          (λ live. false≢true (sym c.if-is_live.false
          ∙ (w.is_live-is ∙ (c.requires.readers w.in-Pin.gate reads).1 live))) c.loop-sink.invariant
      | in-Data w ↦ absurd (false≢true (sym c.if-is_live.false ∙ w.is_live-is))
    ]

pub returns : goal.returns
returns c =
    let circuit = c.args.circuit.now in
    let n = within_place (names circuit) c.args.signal c.requires.signal in (
      λ f. absurd (false≢true f),
      λ live. absurd (dead_all circuit c.requires.circuit.well_formed c.args.signal n.0 n.1
          c.sinks_of-sink-items.result.now (c.sinks_of-sink-items.ensures n.0 n.1)
          c.loop-sink.sink-index c.loop-sink-test.false c.loop-sink.invariant live),
    )
