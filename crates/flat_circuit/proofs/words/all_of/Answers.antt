use Rattle.std.proofs.Common.{◌≡◌, ◌<◌, ◌-◌, ◌+◌, ◌∙◌, arith, length}
use Rattle.std.specs.Prelude.{bit_xor, slice_index_or}
use Rattle.flat_circuit.{specs.GateForms.inverted_if, specs.Words.lane, proofs.Lanes.lane_and}
use Rattle.flat_circuit.proofs.GateLanes.{at_last, turned_lane}
use Rattle.flat_circuit.proofs.PinFolds.{all_first, all_last, all_more}
use Rattle.flat_circuit.proofs.words.all_of.Goals as goal

pub loop-place-init : goal.loop-place-init
loop-place-init c = record {
  all = λ k lt. turned_lane (slice_index_or c.args.words.now c.args.gate.first 0)
      c.in_each_lane-inverted.result k c.args.gate.form.inverts_inputs
      (c.in_each_lane-inverted.ensures k lt)
      ∙ all_first (λ s. lane (slice_index_or c.args.words.now s 0) k)
      c.args.gate.pins.now (λ b. inverted_if c.args.gate.form.inverts_inputs b)
      c.args.gate.first c.requires.some c.requires.ends.0;
  within = omega (arith, c.requires.some);
}

pub loop-place-preserved : goal.loop-place-preserved
loop-place-preserved c =
    let more : c.loop-place.place < length c.args.gate.pins.now = omega (
      arith,
      c.loop-place-test.true,
    ) in
    let turn = c.args.gate.form.inverts_inputs in
    let word = slice_index_or c.args.words.now
    (slice_index_or c.args.gate.pins.now c.loop-place.place 0) 0 in
    record {
      all = λ k lt. lane_and c.loop-place.all (bit_xor word c.in_each_lane-inverted.result) k
          ∙ all_more (λ s. lane (slice_index_or c.args.words.now s 0) k)
          c.args.gate.pins.now (λ b. inverted_if turn b)
          c.loop-place.place (lane c.loop-place.all k)
          (lane (bit_xor word c.in_each_lane-inverted.result) k) more
          (c.loop-place.invariant.all k lt) (turned_lane word c.in_each_lane-inverted.result k turn
          (c.in_each_lane-inverted.ensures k lt));
      within = omega (arith, more);
    }

pub returns : goal.returns
returns c = λ k lt.
    let pins = c.args.gate.pins.now in
    let turn = c.args.gate.form.inverts_inputs in
    let word = slice_index_or c.args.words.now c.args.gate.last 0 in
    let count : length pins ≡ length pins - 1 + 1 = omega (arith, c.requires.some) in
    let started : 0 < c.loop-place.place = omega (arith, c.loop-place.auto.place) in
    lane_and c.loop-place.all (bit_xor word c.in_each_lane-inverted.result) k
    ∙ all_last (λ s. lane (slice_index_or c.args.words.now s 0) k) pins
    (λ b. inverted_if turn b) c.loop-place.place (length pins - 1)
    c.args.gate.last (lane c.loop-place.all k)
    (lane (bit_xor word c.in_each_lane-inverted.result) k) count
    (at_last (length pins) c.loop-place.place started c.loop-place.invariant.within
    (omega (arith, c.loop-place-test.false)) (λ some. omega (
      arith,
      some,
      c.loop-place.auto.place,
      c.loop-place.auto.place-end,
    ))) (c.loop-place.invariant.all k lt) c.requires.ends.1
    (turned_lane word c.in_each_lane-inverted.result k turn (c.in_each_lane-inverted.ensures k lt))
