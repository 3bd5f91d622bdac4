use Rattle.std.proofs.Common.{◌≡◌, ◌<◌, ◌-◌, ◌+◌, ◌∙◌, ap, arith, length}
use Rattle.wide_words.specs.Wide.{number}
use Rattle.flat_circuit.specs.{GateForms.inverted_if, Words.lane}
use Rattle.flat_circuit.proofs.Public.{at_last, lane_and, all_first, all_last, all_more}
use Rattle.region_sim.specs.Pack.{wide_bit}
use Rattle.region_sim.proofs.pack.lanes_of_all.Goals as goal

pub loop-place-init : goal.loop-place-init
loop-place-init g c = record {
  all = λ k lt. c.pin_lanes-all.ensures k lt
      ∙ all_first (wide_bit g.C.Copies.layout (g.C.Copies.rows c.args.copies) c.args.deltas.now k)
      c.args.gate.pins.now (λ b. inverted_if c.args.gate.form.inverts_inputs b)
      c.args.gate.first c.requires.some c.requires.ends.0;
  within = omega (arith, c.requires.some);
}

pub loop-place-preserved : goal.loop-place-preserved
loop-place-preserved g c =
    let more : c.loop-place.place < length c.args.gate.pins.now = omega (
      arith,
      c.loop-place-test.true,
    ) in
    record {
      all = λ k lt. ap (λ n. lane n k) c.and-all.ensures
          ∙ (lane_and (number c.loop-place.all) (number c.pin_lanes-word.result) k
          ∙ all_more (wide_bit g.C.Copies.layout (g.C.Copies.rows c.args.copies) c.args.deltas.now
          k) c.args.gate.pins.now (λ b. inverted_if c.args.gate.form.inverts_inputs b)
          c.loop-place.place (lane (number c.loop-place.all) k)
          (lane (number c.pin_lanes-word.result) k) more (c.loop-place.invariant.all k lt)
          (c.pin_lanes-word.ensures k lt));
      within = omega (arith, more);
    }

pub returns : goal.returns
returns g c = λ k lt.
    let pins = c.args.gate.pins.now in
    let count : length pins ≡ length pins - 1 + 1 = omega (arith, c.requires.some) in
    let started : 0 < c.loop-place.place = omega (arith, c.loop-place.auto.place) in
    ap (λ n. lane n k) c.and.ensures
    ∙ (lane_and (number c.loop-place.all) (number c.pin_lanes-word-2.result) k
    ∙ all_last (wide_bit g.C.Copies.layout (g.C.Copies.rows c.args.copies) c.args.deltas.now k) pins
    (λ b. inverted_if c.args.gate.form.inverts_inputs b) c.loop-place.place (length pins - 1)
    c.args.gate.last (lane (number c.loop-place.all) k)
    (lane (number c.pin_lanes-word-2.result) k) count
    (at_last (length pins) c.loop-place.place started c.loop-place.invariant.within
    (omega (arith, c.loop-place-test.false)) (λ some. omega (
      arith,
      some,
      c.loop-place.auto.place,
      c.loop-place.auto.place-end,
    ))) (c.loop-place.invariant.all k lt) c.requires.ends.1 (c.pin_lanes-word-2.ensures k lt))
