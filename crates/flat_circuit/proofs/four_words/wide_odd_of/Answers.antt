use Rattle.std.proofs.Common.{◌≡◌, ◌<◌, ◌-◌, ◌+◌, ◌∙◌, ap, arith, length, ◌≤◌}
use Rattle.wide_words.specs.Wide.{number}
use Rattle.flat_circuit.{specs.SlotWords.copied_bit, specs.Words.lane, proofs.Lanes.lane_xor}
use Rattle.flat_circuit.proofs.PinFolds.{odd_last, odd_more}
use Rattle.flat_circuit.proofs.four_words.wide_odd_of.Goals as goal

pub loop-place-preserved : goal.loop-place-preserved
loop-place-preserved g c =
    let more : c.loop-place.place < length c.args.gate.pins.now = omega (
      arith,
      c.loop-place-test.true,
    ) in
    record {
      odd = λ k lt. ap (λ n. lane n k) c.xor-odd.ensures
          ∙ (lane_xor (number c.loop-place.odd) (number c.of-word.result) k
          ∙ odd_more (copied_bit g.C.Copies.layout (g.C.Copies.rows c.args.copies) k)
          c.args.gate.pins.now c.loop-place.place (lane (number c.loop-place.odd) k)
          (lane (number c.of-word.result) k) more (c.loop-place.invariant.odd k lt)
          (c.of-word.ensures k lt));
      within = omega (arith, more);
    }

pub returns : goal.returns
returns g c = λ k lt.
    let pins = c.args.gate.pins.now in
    let count : length pins ≡ length pins - 1 + 1 = omega (arith, c.requires.some) in
    let some : 1 ≤ length pins - 1 = omega (arith, c.if-last-eq0.false) in
    let stop : c.loop-place.place ≡ length pins - 1 = omega (
      arith,
      c.loop-place-test.false,
      c.loop-place.auto.place-end some,
    ) in
    ap (λ n. lane n k) c.xor.ensures ∙ (lane_xor (number c.loop-place.odd) (number c.of.result) k
    ∙ odd_last (copied_bit g.C.Copies.layout (g.C.Copies.rows c.args.copies) k) pins
    c.loop-place.place (length pins - 1) c.args.gate.last (lane (number c.loop-place.odd) k)
    (lane (number c.of.result) k) count stop (c.loop-place.invariant.odd k lt)
    c.requires.ends.1 (c.of.ensures k lt))
