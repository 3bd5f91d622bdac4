use Rattle.std.proofs.Common.{◌≡◌, ◌<◌, ◌-◌, ◌+◌, ◌∙◌, ap, arith, length, subst, sym}
use Rattle.std.specs.{Prelude.bit_xor, List.list_all}
use Rattle.patterns.{specs.Least.below, proofs.Public.{get_or-below, length-below}}
use Rattle.flat_circuit.{specs.GateForms.inverted_if, specs.Words.lane, proofs.Lanes.lane_and}
use Rattle.flat_circuit.proofs.GateLanes.{at_last, pin_bit, pin_seen, pins_by_place, turned_lane}
use Rattle.flat_circuit.proofs.PinFolds.{all_first, all_last, all_more}
use Rattle.flat_circuit.proofs.words.all_with_stuck.Goals as goal

pub loop-place-init : goal.loop-place-init
loop-place-init c =
    let pins = c.args.gate.pins.now in
    let turn = c.args.gate.form.inverts_inputs in
    record {
      all = λ f signal k lt on bit.
          turned_lane c.word_at_pin.result c.in_each_lane-inverted.result k turn
          (c.in_each_lane-inverted.ensures k lt)
          ∙ (ap (inverted_if turn) (c.word_at_pin.ensures f signal k on bit
          ∙ ap (λ s. pin_seen f signal c.args.words.now k 0 s) (sym c.requires.ends.0))
          ∙ all_first (pin_bit f signal pins c.args.words.now k) (below (length pins))
          (λ b. inverted_if turn b) 0
          (subst (λ n. 0 < n) (sym (length-below (length pins))) c.requires.some)
          (get_or-below (length pins) 0 0 c.requires.some));
      within = omega (arith, c.requires.some);
    }

pub loop-place-preserved : goal.loop-place-preserved
loop-place-preserved c =
    let pins = c.args.gate.pins.now in
    let turn = c.args.gate.form.inverts_inputs in
    let more : c.loop-place.place < length pins = omega (arith, c.loop-place-test.true) in
    let word = c.word_at_pin-word.result in
    record {
      all = λ f signal k lt on bit.
          lane_and c.loop-place.all (bit_xor word c.in_each_lane-inverted.result) k
          ∙ all_more (pin_bit f signal pins c.args.words.now k) (below (length pins))
          (λ b. inverted_if turn b) c.loop-place.place (lane c.loop-place.all k)
          (lane (bit_xor word c.in_each_lane-inverted.result) k)
          (subst (λ n. c.loop-place.place < n) (sym (length-below (length pins))) more)
          (c.loop-place.invariant.all f signal k lt on bit)
          (turned_lane word c.in_each_lane-inverted.result k turn
          (c.in_each_lane-inverted.ensures k lt)
          ∙ ap (inverted_if turn) (c.word_at_pin-word.ensures f signal k on bit
          ∙ sym (ap (pin_bit f signal pins c.args.words.now k)
          (get_or-below (length pins) c.loop-place.place 0 more))));
      within = omega (arith, more);
    }

pub returns : goal.returns
returns c = λ f signal k lt on bit.
    let pins = c.args.gate.pins.now in
    let turn = c.args.gate.form.inverts_inputs in
    let last = length pins - 1 in
    let word = c.word_at_pin-word-2.result in
    let count : length pins ≡ last + 1 = omega (arith, c.requires.some) in
    let low : last < length pins = omega (arith, c.requires.some) in
    let started : 0 < c.loop-place.place = omega (arith, c.loop-place.auto.place) in
    lane_and c.loop-place.all (bit_xor word c.in_each_lane-inverted.result) k
    ∙ (all_last (pin_bit f signal pins c.args.words.now k) (below (length pins))
    (λ b. inverted_if turn b) c.loop-place.place last last (lane c.loop-place.all k)
    (lane (bit_xor word c.in_each_lane-inverted.result) k) (length-below (length pins) ∙ count)
    (at_last (length pins) c.loop-place.place started c.loop-place.invariant.within
    (omega (arith, c.loop-place-test.false)) (λ some. omega (
      arith,
      some,
      c.loop-place.auto.place,
      c.loop-place.auto.place-end,
    ))) (c.loop-place.invariant.all f signal k lt on bit) (get_or-below (length pins) last 0 low)
    (turned_lane word c.in_each_lane-inverted.result k turn (c.in_each_lane-inverted.ensures k lt)
    ∙ ap (inverted_if turn) (c.word_at_pin-word-2.ensures f signal k on bit
    ∙ ap (λ s. pin_seen f signal c.args.words.now k last s) (sym c.requires.ends.1)))
    ∙ sym (ap (list_all (λ b. inverted_if turn b))
    (pins_by_place f signal pins c.args.words.now k)))
