use Rattle.std.{proofs.Common.{◌<◌, ◌∙◌, ap, arith, length, subst, sym}, specs.List.list_all}
use Rattle.std.proofs.lemmas.List.{length-map, take_all}
use Rattle.patterns.{specs.Least.below, proofs.Public.{get_or-below, length-below}}
use Rattle.wide_words.specs.Wide.{number}
use Rattle.flat_circuit.specs.{GateForms.inverted_if, Words.lane}
use Rattle.flat_circuit.proofs.Public.{turned_lane, lane_and, all_more}
use Rattle.region_sim.specs.Units.{turned_bit, turned_bits}
use Rattle.region_sim.proofs.unit_gate.all_turned.Goals as goal

pub loop-place-init : goal.loop-place-init
loop-place-init g c = record {
  all = λ k lt. c.in_each_wide_lane-all.ensures k lt;
  within = omega arith;
}

pub loop-place-preserved : goal.loop-place-preserved
loop-place-preserved g c =
    let pins = c.args.gate.pins.now in
    let turn = c.args.gate.form.inverts_inputs in
    let more : c.loop-place.place < length pins = omega (arith, c.loop-place-test.true) in
    let word = c.word_of_pin-word.result in
    record {
      all = λ k lt.
          let bit = turned_bit g.C.Copies.layout (g.C.Copies.rows c.args.copies) c.args.turned
          (number c.args.lanes) pins k in
          ap (λ n. lane n k) c.and-all.ensures
          ∙ (lane_and (number c.loop-place.all) (number c.xor.result) k
          ∙ all_more bit (below (length pins)) (λ b. inverted_if turn b) c.loop-place.place
          (lane (number c.loop-place.all) k) (lane (number c.xor.result) k)
          (subst (λ n. c.loop-place.place < n) (sym (length-below (length pins))) more)
          (c.loop-place.invariant.all k lt) (ap (λ n. lane n k) c.xor.ensures
          ∙ (turned_lane (number word) (number c.in_each_wide_lane-inverted.result) k turn
          (c.in_each_wide_lane-inverted.ensures k lt)
          ∙ ap (inverted_if turn) (c.word_of_pin-word.ensures k lt
          ∙ sym (ap bit (get_or-below (length pins) c.loop-place.place 0 more))))));
      within = omega (arith, more);
    }

pub returns : goal.returns
returns g c = λ k lt.
    let pins = c.args.gate.pins.now in
    let bit = turned_bit g.C.Copies.layout (g.C.Copies.rows c.args.copies) c.args.turned
    (number c.args.lanes) pins k in
    let bits = turned_bits g.C.Copies.layout (g.C.Copies.rows c.args.copies) c.args.turned
    (number c.args.lanes) pins k in
    let many = length-map (below (length pins)) bit ∙ length-below (length pins) in
    c.loop-place.invariant.all k lt
    ∙ ap (list_all (λ b. inverted_if c.args.gate.form.inverts_inputs b))
    (take_all c.loop-place.place bits (omega (arith, many, c.loop-place-test.false)))
