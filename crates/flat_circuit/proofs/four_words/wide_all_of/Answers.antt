use Rattle.std.proofs.Common.{◌≡◌, ◌<◌, ◌-◌, ◌+◌, ◌∙◌, ap, arith, length}
use Rattle.std.specs.Prelude.{slice_index_or}
use Rattle.wide_words.specs.Wide.{number}
use Rattle.flat_circuit.specs.{GateForms.inverted_if, SlotWords.copied_bit, Words.lane}
use Rattle.flat_circuit.proofs.{FourWords.turned_bit_of, GateLanes.at_last, Lanes.lane_and}
use Rattle.flat_circuit.proofs.PinFolds.{all_first, all_last, all_more}
use Rattle.flat_circuit.proofs.four_words.wide_all_of.Goals as goal

pub loop-place-init : goal.loop-place-init
loop-place-init g c = record {
  all = λ k lt.
      let bit = copied_bit g.C.Copies.layout (g.C.Copies.rows c.args.copies) k in
      let turn = c.args.gate.form.inverts_inputs in
      turned_bit_of (number c.xor-all.result) (number c.of.result)
      (number c.in_each_wide_lane-inverted.result) k turn (bit c.args.gate.first) c.xor-all.ensures
      (c.in_each_wide_lane-inverted.ensures k lt) (c.of.ensures k lt)
      ∙ all_first bit c.args.gate.pins.now (λ b. inverted_if turn b) c.args.gate.first
      c.requires.some c.requires.ends.0;
  within = omega (arith, c.requires.some);
}

pub loop-place-preserved : goal.loop-place-preserved
loop-place-preserved g c =
    let more : c.loop-place.place < length c.args.gate.pins.now = omega (
      arith,
      c.loop-place-test.true,
    ) in
    record {
      all = λ k lt.
          let bit = copied_bit g.C.Copies.layout (g.C.Copies.rows c.args.copies) k in
          let turn = c.args.gate.form.inverts_inputs in
          ap (λ n. lane n k) c.and-all.ensures
          ∙ (lane_and (number c.loop-place.all) (number c.xor.result) k
          ∙ all_more bit c.args.gate.pins.now (λ b. inverted_if turn b) c.loop-place.place
          (lane (number c.loop-place.all) k) (lane (number c.xor.result) k) more
          (c.loop-place.invariant.all k lt)
          (turned_bit_of (number c.xor.result) (number c.of-word.result)
          (number c.in_each_wide_lane-inverted.result) k turn
          (bit (slice_index_or c.args.gate.pins.now c.loop-place.place 0)) c.xor.ensures
          (c.in_each_wide_lane-inverted.ensures k lt) (c.of-word.ensures k lt)));
      within = omega (arith, more);
    }

pub returns : goal.returns
returns g c = λ k lt.
    let pins = c.args.gate.pins.now in
    let bit = copied_bit g.C.Copies.layout (g.C.Copies.rows c.args.copies) k in
    let turn = c.args.gate.form.inverts_inputs in
    let count : length pins ≡ length pins - 1 + 1 = omega (arith, c.requires.some) in
    let started : 0 < c.loop-place.place = omega (arith, c.loop-place.auto.place) in
    ap (λ n. lane n k) c.and.ensures ∙ (lane_and (number c.loop-place.all) (number c.xor-2.result) k
    ∙ all_last bit pins (λ b. inverted_if turn b) c.loop-place.place (length pins - 1)
    c.args.gate.last (lane (number c.loop-place.all) k) (lane (number c.xor-2.result) k) count
    (at_last (length pins) c.loop-place.place started c.loop-place.invariant.within
    (omega (arith, c.loop-place-test.false)) (λ some. omega (
      arith,
      some,
      c.loop-place.auto.place,
      c.loop-place.auto.place-end,
    ))) (c.loop-place.invariant.all k lt) c.requires.ends.1
    (turned_bit_of (number c.xor-2.result) (number c.of-word-2.result)
    (number c.in_each_wide_lane-inverted.result) k turn (bit c.args.gate.last) c.xor-2.ensures
    (c.in_each_wide_lane-inverted.ensures k lt) (c.of-word-2.ensures k lt)))
