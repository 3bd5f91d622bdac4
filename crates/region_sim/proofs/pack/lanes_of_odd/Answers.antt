use Rattle.std.proofs.Common.{◌≡◌, ◌<◌, ◌-◌, ◌+◌, ◌∙◌, ap, arith, length, ◌≤◌}
use Rattle.std.specs.Prelude.{slice_index_or}
use Rattle.wide_words.specs.Wide.{number}
use Rattle.flat_circuit.specs.Words.{lane}
use Rattle.flat_circuit.proofs.Public.{lane_xor, odd_first, odd_last, odd_more, odd_only}
use Rattle.region_sim.proofs.pack.lanes_of_odd.Goals as goal

pub loop-place-init : goal.loop-place-init
loop-place-init c = record {
  odd = λ k lt. ap (λ n. lane n k) c.lanes_of-odd.ensures
      ∙ odd_first (λ s. lane (slice_index_or c.args.deltas.now s 0) k) c.args.gate.pins.now
      c.args.gate.first c.requires.some c.requires.ends.0;
  within = omega (arith, c.requires.some);
}

pub loop-place-preserved : goal.loop-place-preserved
loop-place-preserved c =
    let more : c.loop-place.place < length c.args.gate.pins.now = omega (
      arith,
      c.loop-place-test.true,
    ) in
    record {
      odd = λ k lt. ap (λ n. lane n k) c.xor-odd.ensures
          ∙ (lane_xor (number c.loop-place.odd) (number c.lanes_of-word.result) k
          ∙ odd_more (λ s. lane (slice_index_or c.args.deltas.now s 0) k) c.args.gate.pins.now
          c.loop-place.place (lane (number c.loop-place.odd) k)
          (lane (number c.lanes_of-word.result) k) more (c.loop-place.invariant.odd k lt)
          (ap (λ n. lane n k) c.lanes_of-word.ensures));
      within = omega (arith, more);
    }

pub returns-then-last-eq0 : goal.returns-then-last-eq0
returns-then-last-eq0 c = λ k lt.
    let pins = c.args.gate.pins.now in
    let count : length pins ≡ length pins - 1 + 1 = omega (arith, c.requires.some) in
    c.loop-place.invariant.odd k lt
    ∙ odd_only (λ s. lane (slice_index_or c.args.deltas.now s 0) k) pins c.loop-place.place
    (length pins - 1) count c.if-last-eq0.true (omega (
      arith,
      c.loop-place.auto.place,
      c.loop-place.invariant.within,
      c.if-last-eq0.true,
      count,
    ))

pub returns : goal.returns
returns c = λ k lt.
    let pins = c.args.gate.pins.now in
    let count : length pins ≡ length pins - 1 + 1 = omega (arith, c.requires.some) in
    let some : 1 ≤ length pins - 1 = omega (arith, c.if-last-eq0.false) in
    let stop : c.loop-place.place ≡ length pins - 1 = omega (
      arith,
      c.loop-place-test.false,
      c.loop-place.auto.place-end some,
    ) in
    ap (λ n. lane n k) c.xor.ensures
    ∙ (lane_xor (number c.loop-place.odd) (number c.lanes_of.result) k
    ∙ odd_last (λ s. lane (slice_index_or c.args.deltas.now s 0) k) pins c.loop-place.place
    (length pins - 1) c.args.gate.last (lane (number c.loop-place.odd) k)
    (lane (number c.lanes_of.result) k) count stop (c.loop-place.invariant.odd k lt)
    c.requires.ends.1 (ap (λ n. lane n k) c.lanes_of.ensures))
