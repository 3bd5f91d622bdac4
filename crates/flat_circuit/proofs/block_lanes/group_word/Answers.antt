use Rattle.std.proofs.Common.{◌≡◌, ◌+◌, ◌*◌, ◌%◌, ◌-◌, ◌^◌, ◌<◌, ◌∙◌, ℕ, refl, ap, arith}
use Rattle.std.{specs.Prelude.bit_or, specs.Int.bit_at, proofs.lemmas.Grind.or_after_shift}
use Rattle.std.proofs.lemmas.Nat.Bits.{bit_at_cat_low, bit_at_cat_high}
use Rattle.flat_circuit.proofs.block_lanes.group_word.Goals as goal

-- the two words side by side
joined : (low high : ℕ) → low < 2 ^ 64 → high < 2 ^ 64
    → bit_or (high * 18446744073709551616 % 340282366920938463463374607431768211456) low ≡ high
    * 2 ^ 64 + low
joined low high below above = or_after_shift high 18446744073709551616
    340282366920938463463374607431768211456 low refl (omega (arith, below)) (omega (arith, above))

pub returns-clause-low : goal.returns-clause-low
returns-clause-low c = λ k lt.
    let low = c.from-2.result in
    let high = c.from.result in
    let is : low ≡ c.args.low = c.from-2.ensures in
    ap (λ x. bit_at x k) (joined low high (omega arith) (omega arith))
    ∙ (bit_at_cat_low high 64 low k lt ∙ ap (λ x. bit_at x k) is)

pub returns-clause-high : goal.returns-clause-high
returns-clause-high c = λ k lt.
    let low = c.from-2.result in
    let high = c.from.result in
    let is : high ≡ c.args.high = c.from.ensures in
    let few : low < 2 ^ 64 = omega arith in
    let back : 64 + k - 64 ≡ k = omega arith in
    ap (λ x. bit_at x (64 + k)) (joined low high few (omega arith))
    ∙ (bit_at_cat_high high 64 low (64 + k) few (omega arith)
    ∙ (ap (bit_at high) back ∙ ap (λ x. bit_at x k) is))
