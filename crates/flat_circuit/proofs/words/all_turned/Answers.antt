use Rattle.std.proofs.Common.{◌≡◌, ◌<◌, ◌-◌, ◌+◌, ◌∙◌, ℕ, refl, ap, arith, length}
use Rattle.std.specs.Prelude.{bit_xor, slice_index_or}
use Rattle.flat_circuit.specs.{GateForms.inverted_if, Words.{lane, turned_word}}
use Rattle.flat_circuit.proofs.{FourWords.turned_bit_of, GateLanes.at_last, Lanes.lane_and}
use Rattle.flat_circuit.proofs.PinFolds.{all_first, all_last, all_more}
use Rattle.flat_circuit.proofs.words.all_turned.Goals as goal

pub loop-place-init : goal.loop-place-init
loop-place-init c = record {
  all = λ k lt.
      let bit = λ (s : ℕ). lane (turned_word c.args.words.now c.args.turned c.args.lanes s) k in
      let turn = c.args.gate.form.inverts_inputs in
      turned_bit_of (bit_xor c.word_turned.result c.in_each_lane-inverted.result)
      c.word_turned.result c.in_each_lane-inverted.result k turn (bit c.args.gate.first) refl
      (c.in_each_lane-inverted.ensures k lt) (ap (λ w. lane w k) c.word_turned.ensures)
      ∙ all_first bit c.args.gate.pins.now (λ b. inverted_if turn b) c.args.gate.first
      c.requires.some c.requires.ends.0;
  within = omega (arith, c.requires.some);
}

pub loop-place-preserved : goal.loop-place-preserved
loop-place-preserved c =
    let more : c.loop-place.place < length c.args.gate.pins.now = omega (
      arith,
      c.loop-place-test.true,
    ) in
    let flips = c.in_each_lane-inverted.result in
    let word = c.word_turned-word.result in
    record {
      all = λ k lt.
          let bit = λ (s : ℕ). lane (turned_word c.args.words.now c.args.turned c.args.lanes s) k in
          let turn = c.args.gate.form.inverts_inputs in
          lane_and c.loop-place.all (bit_xor word flips) k
          ∙ all_more bit c.args.gate.pins.now (λ b. inverted_if turn b) c.loop-place.place
          (lane c.loop-place.all k) (lane (bit_xor word flips) k) more
          (c.loop-place.invariant.all k lt) (turned_bit_of (bit_xor word flips) word flips k turn
          (bit (slice_index_or c.args.gate.pins.now c.loop-place.place 0)) refl
          (c.in_each_lane-inverted.ensures k lt) (ap (λ w. lane w k) c.word_turned-word.ensures));
      within = omega (arith, more);
    }

pub returns : goal.returns
returns c = λ k lt.
    let pins = c.args.gate.pins.now in
    let bit = λ (s : ℕ). lane (turned_word c.args.words.now c.args.turned c.args.lanes s) k in
    let turn = c.args.gate.form.inverts_inputs in
    let flips = c.in_each_lane-inverted.result in
    let word = c.word_turned-word-2.result in
    let count : length pins ≡ length pins - 1 + 1 = omega (arith, c.requires.some) in
    let started : 0 < c.loop-place.place = omega (arith, c.loop-place.auto.place) in
    lane_and c.loop-place.all (bit_xor word flips) k
    ∙ all_last bit pins (λ b. inverted_if turn b) c.loop-place.place (length pins - 1)
    c.args.gate.last (lane c.loop-place.all k) (lane (bit_xor word flips) k) count
    (at_last (length pins) c.loop-place.place started c.loop-place.invariant.within
    (omega (arith, c.loop-place-test.false)) (λ some. omega (
      arith,
      some,
      c.loop-place.auto.place,
      c.loop-place.auto.place-end,
    ))) (c.loop-place.invariant.all k lt) c.requires.ends.1
    (turned_bit_of (bit_xor word flips) word flips k turn (bit c.args.gate.last) refl
    (c.in_each_lane-inverted.ensures k lt) (ap (λ w. lane w k) c.word_turned-word-2.ensures))
