use Rattle.std.proofs.Common.{◌≡◌, ◌+◌, ◌*◌, ◌/◌, ◌%◌, ◌-◌, ◌^◌, ◌<◌, ◌∙◌, ◌&&◌, Bool, true, false}
use Rattle.std.{proofs.Common.{refl, ap, sym, arith}, specs.Prelude.◌==◌, specs.Int.bit_at}
use Rattle.std.proofs.lemmas.Nat.Bits.{bit_at_cat_high}
use Rattle.flat_circuit.{specs.Words.lane, proofs.Lanes.{lane_and, lane_ones}}
use Rattle.flat_circuit.proofs.block_lanes.block_word.Goals as goal

and_true : (b : Bool) → (b && true) ≡ b
and_true true = refl
and_true false = refl

pub returns-then-block-eq0 : goal.returns-then-block-eq0
returns-then-block-eq0 c = λ k j lt place.
    let even = c.if-block-eq0.true in
    let same : k ≡ j = omega (arith, place, even) in
    lane_and c.args.word c.from.result k ∙ (ap (λ x. lane c.args.word k && lane x k) c.from.ensures
    ∙ (ap (λ b. lane c.args.word k && b) (lane_ones 64 k lt)
    ∙ (and_true (lane c.args.word k) ∙ ap (lane c.args.word) same)))

pub returns-else-block-eq0 : goal.returns-else-block-eq0
returns-else-block-eq0 c = λ k j lt place.
    let odd = c.if-block-eq0.false in
    let w = c.args.word in
    let up : 64 + k ≡ j = omega (arith, place, odd) in
    let back : 64 + k - 64 ≡ k = omega arith in
    let parts : w / 2 ^ 64 * 2 ^ 64 + w % 2 ^ 64 ≡ w = omega arith in
    let few : w % 2 ^ 64 < 2 ^ 64 = omega arith in
    ap (λ x. x == 1) (ap (bit_at (w / 2 ^ 64)) (sym back)
    ∙ (sym (bit_at_cat_high (w / 2 ^ 64) 64 (w % 2 ^ 64) (64 + k) few (omega arith))
    ∙ ap (λ x. bit_at x (64 + k)) parts)) ∙ ap (lane w) up
