use Rattle.std.proofs.Common.{◌≡◌, ◌<◌, ◌-◌, ◌+◌, ◌∙◌, ◌≤◌, refl, arith, length}
use Rattle.std.specs.Prelude.{slice_index_or}
use Rattle.flat_circuit.{specs.Words.lane, proofs.Lanes.lane_xor}
use Rattle.flat_circuit.proofs.PinFolds.{odd_first, odd_last, odd_more, odd_only}
use Rattle.flat_circuit.proofs.words.odd_of.Goals as goal

pub loop-place-init : goal.loop-place-init
loop-place-init c = record {
  odd = λ k lt. odd_first (λ s. lane (slice_index_or c.args.words.now s 0) k)
      c.args.gate.pins.now c.args.gate.first c.requires.some c.requires.ends.0;
  within = omega (arith, c.requires.some);
}

pub loop-place-preserved : goal.loop-place-preserved
loop-place-preserved c =
    let more : c.loop-place.place < length c.args.gate.pins.now = omega (
      arith,
      c.loop-place-test.true,
    ) in
    let word = slice_index_or c.args.words.now
    (slice_index_or c.args.gate.pins.now c.loop-place.place 0) 0 in
    record {
      odd = λ k lt. lane_xor c.loop-place.odd word k
          ∙ odd_more (λ s. lane (slice_index_or c.args.words.now s 0) k) c.args.gate.pins.now
          c.loop-place.place (lane c.loop-place.odd k) (lane word k) more
          (c.loop-place.invariant.odd k lt) refl;
      within = omega (arith, more);
    }

pub returns-then-last-eq0 : goal.returns-then-last-eq0
returns-then-last-eq0 c = λ k lt.
    let pins = c.args.gate.pins.now in
    let count : length pins ≡ length pins - 1 + 1 = omega (arith, c.requires.some) in
    c.loop-place.invariant.odd k lt
    ∙ odd_only (λ s. lane (slice_index_or c.args.words.now s 0) k) pins c.loop-place.place
    (length pins - 1) count c.if-last-eq0.true (omega (
      arith,
      c.loop-place.auto.place,
      c.loop-place.invariant.within,
      c.if-last-eq0.true,
      count,
    ))

pub returns : goal.returns
returns c = λ k lt.
    let pins = c.args.gate.pins.now in
    let word = slice_index_or c.args.words.now c.args.gate.last 0 in
    let count : length pins ≡ length pins - 1 + 1 = omega (arith, c.requires.some) in
    let some : 1 ≤ length pins - 1 = omega (arith, c.if-last-eq0.false) in
    let stop : c.loop-place.place ≡ length pins - 1 = omega (
      arith,
      c.loop-place-test.false,
      c.loop-place.auto.place-end some,
    ) in
    lane_xor c.loop-place.odd word k
    ∙ odd_last (λ s. lane (slice_index_or c.args.words.now s 0) k) pins c.loop-place.place
    (length pins - 1) c.args.gate.last (lane c.loop-place.odd k)
    (lane word k) count stop (c.loop-place.invariant.odd k lt) c.requires.ends.1 refl
