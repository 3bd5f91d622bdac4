use Rattle.std.proofs.Common.{◌≡◌, ◌<◌, ◌+◌, ◌⊎◌, ◌∙◌, ℕ, arith, get_or, inl, inr, length, sym}
use Rattle.std.{proofs.Common.true, specs.Prelude.{Some, slice_get, slice_index_or}}
use Rattle.std.proofs.lemmas.Option.{slice_get-get_or}
use Rattle.bench_net.specs.Scan.{gate_of}
use Rattle.flat_circuit.specs.{Stuck.stuck_fault, Words.lane}
use Rattle.flat_circuit.proofs.Public.{pins_few, pins_within}
use Rattle.blocking_pins.specs.{Blocking.controlling, Effects.Stops}
use Rattle.blocking_pins.proofs.{Adding.{added_more, added_same}, GateStops.stops_within}
use Rattle.blocking_pins.proofs.GateStops.{StopsBelow, blocked_stops, stops_blocked, stops_split}
use Rattle.blocking_pins.proofs.counting.add_gate.Goals as goal

pub entered-requires-clause-few : goal.entered-requires-clause-few
entered-requires-clause-few c =
    pins_few c.args.circuit.now.arranged c.args.gate.place c.in-Some.driver.kind
    c.in-Some.driver.pins.now c.requires.words.circuit (sym c.in-Some.ensures.gate)

pub entered-requires-clause-within : goal.entered-requires-clause-within
entered-requires-clause-within c = λ k d lt.
    let within = pins_within c.args.circuit.now.arranged c.args.gate.place c.in-Some.driver.kind
    c.in-Some.driver.pins.now c.requires.words.circuit.well_formed
    (sym c.in-Some.ensures.gate) k d lt in
    omega (arith, within, c.requires.words.count)

pub steady-blocked-requires-clause-pin : goal.steady-blocked-requires-clause-pin
steady-blocked-requires-clause-pin c =
    let few = pins_few c.args.circuit.now.arranged c.args.gate.place c.in-Some.driver.kind
    c.in-Some.driver.pins.now c.requires.words.circuit (sym c.in-Some.ensures.gate) in
    omega (arith, few, c.loop-pin-test.true)

pub steady-blocked-requires-clause-read : goal.steady-blocked-requires-clause-read
steady-blocked-requires-clause-read c =
    let within = pins_within c.args.circuit.now.arranged c.args.gate.place c.in-Some.driver.kind
    c.in-Some.driver.pins.now c.requires.words.circuit.well_formed
    (sym c.in-Some.ensures.gate) c.loop-pin.pin 0 c.loop-pin-test.true in
    omega (arith, within, c.requires.words.count)

pub loop-pin-preserved : goal.loop-pin-preserved
loop-pin-preserved c =
    let circuit = c.args.circuit.now.arranged in
    let f = stuck_fault c.args.gate.fault in
    let good = c.args.gate.good.now in
    let delta = c.args.gate.delta.now in
    let place = c.args.gate.place in
    let kind = c.in-Some.driver.kind in
    let pins = c.in-Some.driver.pins.now in
    let value = c.in-Some-controlling_value.value in
    let is : gate_of circuit place ≡ Some (kind, pins) = sym c.in-Some.ensures.gate in
    let controls : controlling kind ≡ Some value =
    sym c.controlling_value.ensures ∙ c.in-Some-controlling_value.is in
    let pin = c.loop-pin.pin in
    let read = slice_index_or pins pin 0 in
    let at : slice_get pins pin ≡ Some read = slice_get-get_or pins pin 0 c.loop-pin-test.true in
    let blocked = c.steady-blocked.result in
    let lanes = c.args.lanes in
    let start = c.args.start in
    let stops = blocked_stops circuit f good delta place lanes kind pins value is controls
    c.entered.result c.entered.ensures pin read blocked at c.steady-blocked.ensures in
    let blocks = stops_blocked circuit f good delta place lanes kind pins value is controls
    c.entered.result c.entered.ensures pin read blocked at c.steady-blocked.ensures in
    added_more c.args.number (StopsBelow circuit f good delta place lanes start pin)
    (λ i k. (i ≡ start + pin) × (lane blocked k ≡ true))
    (StopsBelow circuit f good delta place lanes start (pin + 1)) c.args.counts.now
    c.loop-pin.counts c.note.new.counts c.args.row.now c.loop-pin.row c.note.new.row
    (stops_split circuit f good delta place lanes start pin blocked blocks)
    (λ i k low s. (s.0, (let lt = s.1 in omega (arith, lt)), s.2, s.3, s.4))
    (λ i k low s. let w = stops k low s.1 in (pin, omega arith, s.0, w.0, w.1))
    c.loop-pin.invariant c.note.ensures

pub returns : goal.returns
returns c =
    let circuit = c.args.circuit.now.arranged in
    let f = stuck_fault c.args.gate.fault in
    let good = c.args.gate.good.now in
    let delta = c.args.gate.delta.now in
    let place = c.args.gate.place in
    let kind = c.in-Some.driver.kind in
    let pins = c.in-Some.driver.pins.now in
    let is : gate_of circuit place ≡ Some (kind, pins) = sym c.in-Some.ensures.gate in
    let lanes = c.args.lanes in
    let start = c.args.start in
    let end = c.loop-pin-test.false in
    added_same c.args.number (StopsBelow circuit f good delta place lanes start c.loop-pin.pin)
    (λ i k. (pin : ℕ) × (i ≡ start + pin) × (lane lanes k ≡ true)
    × Stops circuit f good delta place pin k) c.args.counts.now c.loop-pin.counts c.args.row.now
    c.loop-pin.row (λ i k low s. (s.0, s.2, s.3, s.4)) (λ i k low s. (
      s.0,
      (let lt = stops_within circuit f good delta place s.0 k kind pins is s.3 in
          omega (arith, lt, end)),
      s.1,
      s.2,
      s.3,
    )) c.loop-pin.invariant
