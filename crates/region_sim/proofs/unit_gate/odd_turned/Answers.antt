use Rattle.std.proofs.Common.{◌<◌, ◌∙◌, ap, arith, length, subst, sym}
use Rattle.std.proofs.lemmas.List.{length-map, take_all}
use Rattle.fault_model.specs.Solution.{is_odd}
use Rattle.patterns.{specs.Least.below, proofs.Public.{get_or-below, length-below}}
use Rattle.wide_words.specs.Wide.{number}
use Rattle.region_sim.specs.Units.{turned_bit, turned_bits}
use Rattle.flat_circuit.{specs.Words.lane, proofs.Public.{lane_xor, lane_zero, odd_more}}
use Rattle.region_sim.proofs.unit_gate.odd_turned.Goals as goal

pub loop-place-init : goal.loop-place-init
loop-place-init g c = record {
  odd = λ k lt. ap (λ n. lane n k) c.none-odd.ensures ∙ lane_zero k;
  within = omega arith;
}

pub loop-place-preserved : goal.loop-place-preserved
loop-place-preserved g c =
    let pins = c.args.gate.pins.now in
    let more : c.loop-place.place < length pins = omega (arith, c.loop-place-test.true) in
    let word = c.word_of_pin-word.result in
    record {
      odd = λ k lt.
          let bit = turned_bit g.C.Copies.layout (g.C.Copies.rows c.args.copies) c.args.turned
          (number c.args.lanes) pins k in
          ap (λ n. lane n k) c.xor-odd.ensures ∙ (lane_xor (number c.loop-place.odd) (number word) k
          ∙ odd_more bit (below (length pins)) c.loop-place.place
          (lane (number c.loop-place.odd) k) (lane (number word) k)
          (subst (λ n. c.loop-place.place < n) (sym (length-below (length pins))) more)
          (c.loop-place.invariant.odd k lt) (c.word_of_pin-word.ensures k lt
          ∙ sym (ap bit (get_or-below (length pins) c.loop-place.place 0 more))));
      within = omega (arith, more);
    }

pub returns : goal.returns
returns g c = λ k lt.
    let pins = c.args.gate.pins.now in
    let bit = turned_bit g.C.Copies.layout (g.C.Copies.rows c.args.copies) c.args.turned
    (number c.args.lanes) pins k in
    let bits = turned_bits g.C.Copies.layout (g.C.Copies.rows c.args.copies) c.args.turned
    (number c.args.lanes) pins k in
    let many = length-map (below (length pins)) bit ∙ length-below (length pins) in
    c.loop-place.invariant.odd k lt
    ∙ ap is_odd (take_all c.loop-place.place bits (omega (arith, many, c.loop-place-test.false)))
