use Rattle.std.proofs.Common.{◌≡◌, ◌<◌, ◌-◌, ◌+◌, arith, length}
use Rattle.flat_circuit.{specs.Stuck.fault_of, proofs.GateLanes.folds_odd}
use Rattle.flat_circuit.proofs.GateLanes.{at_last, folds_first, folds_more, folds_last, folds_all}
use Rattle.flat_circuit.proofs.words.folds_of.Goals as goal

pub loop-place-init : goal.loop-place-init
loop-place-init c = record {
  folds = folds_first (fault_of c.args.fault) c.args.signal c.args.gate.pins.now c.args.words.now
      c.args.delta.now c.args.gate.form.inverts_inputs c.in_each_lane-inverted.result
      c.pin_word-first.result
      c.requires.some c.in_each_lane-inverted.ensures c.pin_word-first.ensures;
  within = omega (arith, c.requires.some);
}

pub loop-place-preserved : goal.loop-place-preserved
loop-place-preserved c =
    let more : c.loop-place.place < length c.args.gate.pins.now = omega (
      arith,
      c.loop-place-test.true,
    ) in
    record {
      folds = folds_more (fault_of c.args.fault) c.args.signal c.args.gate.pins.now c.args.words.now
          c.args.delta.now c.args.gate.form.inverts_inputs c.in_each_lane-inverted.result
          c.loop-place.place c.loop-place.all c.loop-place.odd
          c.pin_word-word.result more c.in_each_lane-inverted.ensures c.loop-place.invariant.folds
          c.pin_word-word.ensures;
      within = omega (arith, more);
    }

pub returns-clause-all : goal.returns-clause-all
returns-clause-all c =
    let pins = c.args.gate.pins.now in
    let last = length pins - 1 in
    let count : length pins ≡ last + 1 = omega (arith, c.requires.some) in
    let started : 0 < c.loop-place.place = omega (arith, c.loop-place.auto.place) in
    folds_all (fault_of c.args.fault) c.args.signal pins c.args.words.now c.args.delta.now
    c.args.gate.form.inverts_inputs _ _
    (folds_last (fault_of c.args.fault) c.args.signal pins c.args.words.now c.args.delta.now
    c.args.gate.form.inverts_inputs c.in_each_lane-inverted.result c.loop-place.place last
    c.loop-place.all c.loop-place.odd c.pin_word-word-2.result c.in_each_lane.result count
    (at_last (length pins) c.loop-place.place started c.loop-place.invariant.within
    (omega (arith, c.loop-place-test.false)) (λ some. omega (
      arith,
      some,
      c.loop-place.auto.place,
      c.loop-place.auto.place-end,
    ))) c.in_each_lane-inverted.ensures c.in_each_lane.ensures c.loop-place.invariant.folds
    c.pin_word-word-2.ensures started)

pub returns-clause-odd : goal.returns-clause-odd
returns-clause-odd c =
    let pins = c.args.gate.pins.now in
    let last = length pins - 1 in
    let count : length pins ≡ last + 1 = omega (arith, c.requires.some) in
    let started : 0 < c.loop-place.place = omega (arith, c.loop-place.auto.place) in
    folds_odd (fault_of c.args.fault) c.args.signal pins c.args.words.now c.args.delta.now
    c.args.gate.form.inverts_inputs _ _
    (folds_last (fault_of c.args.fault) c.args.signal pins c.args.words.now c.args.delta.now
    c.args.gate.form.inverts_inputs c.in_each_lane-inverted.result c.loop-place.place last
    c.loop-place.all c.loop-place.odd c.pin_word-word-2.result c.in_each_lane.result count
    (at_last (length pins) c.loop-place.place started c.loop-place.invariant.within
    (omega (arith, c.loop-place-test.false)) (λ some. omega (
      arith,
      some,
      c.loop-place.auto.place,
      c.loop-place.auto.place-end,
    ))) c.in_each_lane-inverted.ensures c.in_each_lane.ensures c.loop-place.invariant.folds
    c.pin_word-word-2.ensures started)
