-- The two halves of a word of 128 lanes.
use Rattle.std.proofs.Common.{◌≡◌, ◌<◌, ◌≤◌, ℕ, ◌+◌, ◌*◌, ◌-◌, ◌/◌, ◌%◌, ◌^◌, refl, sym, ◌∙◌, ap}
use Rattle.std.{proofs.Common.{arith, false, min}, specs.Prelude.{bit_and, bit_or, ◌==◌}}
use Rattle.std.{specs.Int.bit_at, proofs.lemmas.Grind.or_before_shift}
use Rattle.std.proofs.lemmas.Nat.Bits.{bit_at-lt, bit_at-zero, bit_at_above, bit_at_and}
use Rattle.std.proofs.lemmas.Nat.Bits.{bit_at_ones, bit_at_cat_high, bit_at_cat_low}
use Rattle.wide_words.specs.Lanes.{lane}

pub lane_zero : (k : ℕ) → lane 0 k ≡ false
lane_zero k = rw (bit_at-zero k) refl

pub low_lane : (word mask k : ℕ) → mask ≡ 2 ^ 64 - 1 → k < 64
    → lane (bit_and word mask) k ≡ lane word k
low_lane word mask k e lt =
    let small = bit_at-lt word k in
    let least : min (bit_at word k) 1 ≡ bit_at word k = omega (arith, small) in
    ap (λ m. lane (bit_and word m) k) e ∙ ap (λ b. b == 1) (bit_at_and word (2 ^ 64 - 1) k
    ∙ (ap (min (bit_at word k)) (bit_at_ones 64 k lt) ∙ least))

pub high_lane : (word k : ℕ) → lane (word / 2 ^ 64) k ≡ lane word (64 + k)
high_lane word k =
    let back : 64 + k - 64 ≡ k = omega arith in
    let parts : word / 2 ^ 64 * 2 ^ 64 + word % 2 ^ 64 ≡ word = omega arith in
    let few : word % 2 ^ 64 < 2 ^ 64 = omega arith in
    ap (λ b. b == 1) (ap (bit_at (word / 2 ^ 64)) (sym back)
    ∙ (sym (bit_at_cat_high (word / 2 ^ 64) 64 (word % 2 ^ 64) (64 + k) few (omega arith))
    ∙ ap (λ x. bit_at x (64 + k)) parts))

-- ---- side by side
both_words : (low high : ℕ) → low < 2 ^ 64 → high < 2 ^ 64
    → bit_or low (high * 18446744073709551616 % 340282366920938463463374607431768211456)
    ≡ high * 2 ^ 64 + low
both_words low high below above = or_before_shift low high 18446744073709551616
    340282366920938463463374607431768211456 refl (omega (arith, below)) (omega (arith, above))

module _ (low high : ℕ) (below : low < 2 ^ 64) (above : high < 2 ^ 64) where
  abbrev word : ℕ
  word = bit_or low (high * 18446744073709551616 % 340282366920938463463374607431768211456)

  pub joined_low : (k : ℕ) → k < 64 → lane word k ≡ lane low k
  joined_low k lt = ap (λ b. b == 1) (ap (λ x. bit_at x k) (both_words low high below above)
      ∙ bit_at_cat_low high 64 low k lt)

  pub joined_high : (k : ℕ) → lane word (64 + k) ≡ lane high k
  joined_high k =
      let back : 64 + k - 64 ≡ k = omega arith in
      ap (λ b. b == 1) (ap (λ x. bit_at x (64 + k)) (both_words low high below above)
      ∙ (bit_at_cat_high high 64 low (64 + k) below (omega arith) ∙ ap (bit_at high) back))

  pub joined_rest : (k : ℕ) → 128 ≤ k → lane word k ≡ false
  joined_rest k le =
      let small : high * 2 ^ 64 + low < 2 ^ 128 = omega (arith, below, above) in
      rw (both_words low high below above, bit_at_above (high * 2 ^ 64 + low) 128 k small le) refl
