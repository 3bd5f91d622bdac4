use Rattle.std.proofs.Common.{◌≡◌, ◌∙◌, ◌+◌, ◌++◌, List, ap, arith, length, sym, take, ℕ}
use Rattle.std.proofs.lemmas.List.{take_all}
use Rattle.bench_net.specs.declared.Sink.{Sink, TheVariants.Pin}
use Rattle.faultsim_c.specs.{Circuits.fan_out, declared.circuit.FsPin.FsPin}
use Rattle.faultsim_c.proofs.FanOuts.{among_fan_out, none_put, pin_count_more, pin_put, pins_among}
use Rattle.faultsim_c.proofs.{FanOuts.room_for_pin, circuit.put_fan_out.Goals.{in-Pin, in_default}}
use Rattle.faultsim_c.proofs.circuit.put_fan_out.Goals as goal

pub bounds-pins-next : goal.bounds-pins-next
bounds-pins-next c =
    let ks = c.sinks_of-sinks.result.now in
    let n = c.name_of-name.result.now in
    let long = c.loop-sink.invariant.long in
    let room = room_for_pin c.args.circuit.now n c.args.signal ks
    c.signals-signals.ensures.circuit.well_formed c.name_of-name.ensures
    (c.sinks_of-sinks.ensures n (sym c.name_of-name.ensures)) c.loop-sink.sink-index
    (Pin c.in-Pin.gate c.in-Pin.pin) (Pin 0 0) c.loop-sink-test.true c.in-Pin.is (omega arith)
    c.args.place c.loop-sink.next c.loop-sink.invariant.place (length c.args.pins.now)
    c.requires.room in
    omega (arith, room, long)

pub loop-sink-preserved : goal.loop-sink-preserved
loop-sink-preserved c = elim c.match-sink.branch [
  | in-Pin w ↦ (let ks = c.sinks_of-sinks.result.now in
      let n = c.name_of-name.result.now in
      let i = c.loop-sink.sink-index in
      let g = w.in-Pin.gate in
      let p = w.in-Pin.pin in
      let next = c.loop-sink.next in
      let was = c.loop-sink.invariant in
      let lt = c.loop-sink-test.true in
      let room = room_for_pin c.args.circuit.now n c.args.signal ks
      c.signals-signals.ensures.circuit.well_formed c.name_of-name.ensures
      (c.sinks_of-sinks.ensures n (sym c.name_of-name.ensures)) i (Pin g p) (Pin 0 0) lt w.in-Pin.is
      (omega arith) c.args.place next was.place (length c.args.pins.now) c.requires.room in
      let more = pin_count_more ks i g p (Pin 0 0) lt w.in-Pin.is in
      let place = was.place in
      let long = was.long in
      let on = w.next-is in
      record {
        place = omega (arith, more, place, on);
        rows = ap (λ (n : ℕ). take n c.match-sink.pins) w.next-is
            ∙ (ap (λ (l : List FsPin). take (next + 1) l) w.pins-is
            ∙ pin_put c.args.pins.now c.loop-sink.pins ks i g p c.args.place next (Pin 0 0) lt
            w.in-Pin.is (omega (arith, room, long)) was.rows);
        long = c.match-sink.auto.pins ∙ was.long;
      })
  | in_default w ↦ (let ks = c.sinks_of-sinks.result.now in
      let front = take c.args.place c.args.pins.now in
      let was = c.loop-sink.invariant in
      let same = none_put ks c.loop-sink.sink-index (Pin 0 0) c.loop-sink-test.true
      w.in_default.not-Pin in
      record {
        place = w.next-is
            ∙ (was.place ∙ ap (λ (l : List FsPin). c.args.place + length l) (sym same));
        rows = ap (λ (n : ℕ). take n c.match-sink.pins) w.next-is
            ∙ (ap (λ (l : List FsPin). take c.loop-sink.next l) w.pins-is
            ∙ (was.rows ∙ ap (λ (l : List FsPin). front ++ l) (sym same)));
        long = c.match-sink.auto.pins ∙ was.long;
      })
]

pub returns-clause-after : goal.returns-clause-after
returns-clause-after c =
    let ks = c.sinks_of-sinks.result.now in
    let whole = among_fan_out c.args.circuit.now c.name_of-name.result.now c.args.signal ks
    c.signals-signals.ensures.circuit.well_formed c.name_of-name.ensures
    (c.sinks_of-sinks.ensures c.name_of-name.result.now (sym c.name_of-name.ensures)) in
    let end = take_all c.loop-sink.sink-index ks c.loop-sink-test.false in
    c.loop-sink.invariant.place ∙ ap (λ (l : List FsPin). c.args.place + length l)
    (ap (λ (l : List Sink). pins_among l) end ∙ whole)

pub returns-clause-rows : goal.returns-clause-rows
returns-clause-rows c =
    let ks = c.sinks_of-sinks.result.now in
    let whole = among_fan_out c.args.circuit.now c.name_of-name.result.now c.args.signal ks
    c.signals-signals.ensures.circuit.well_formed c.name_of-name.ensures
    (c.sinks_of-sinks.ensures c.name_of-name.result.now (sym c.name_of-name.ensures)) in
    let end = take_all c.loop-sink.sink-index ks c.loop-sink-test.false in
    let all : pins_among (take c.loop-sink.sink-index ks)
    ≡ fan_out c.args.circuit.now c.args.signal = ap (λ (l : List Sink). pins_among l) end ∙ whole in
    ap (λ (l : List FsPin). take (c.args.place + length l) c.loop-sink.pins) (sym all)
    ∙ (ap (λ (n : ℕ). take n c.loop-sink.pins) (sym c.loop-sink.invariant.place)
    ∙ (c.loop-sink.invariant.rows
    ∙ ap (λ (l : List FsPin). take c.args.place c.args.pins.now ++ l) all))
