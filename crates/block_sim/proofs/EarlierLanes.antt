-- The word of the lanes before.
use Rattle.std.proofs.Common.{◌≡◌, ◌<◌, ◌^◌, ◌*◌, ◌/◌, ◌%◌, ◌+◌, ℕ, suc, refl, sym, ◌∙◌, ap, false}
use Rattle.std.{proofs.Common.{true, Bool, ◌||◌, arith}, specs.Prelude.{◌==◌, bit_or}}
use Rattle.std.{specs.Int.bit_at, proofs.lemmas.Nat.Bits.bit_at_cat_high}
use Rattle.std.proofs.lemmas.Nat.Bits.{bit_at-suc, bit_at_lowest, bit_at_above, bit_at_cat_low}
use Rattle.flat_circuit.{specs.Words.lane, proofs.Public.lane_or}

-- a word one up has 0 in lane 0, and in the next its lane
up_first : (w : ℕ) → lane (w * 2 % 2 ^ 128) 0 ≡ false
up_first w = let even : w * 2 % 2 ^ 128 % 2 ≡ 0 = omega arith in
    ap (λ x. x == 1) (bit_at_lowest (w * 2 % 2 ^ 128) ∙ even)

low : (w k : ℕ) → k < 127 → bit_at (w % 2 ^ 127) k ≡ bit_at w k
low w k lt = let parts : w ≡ w / 2 ^ 127 * 2 ^ 127 + w % 2 ^ 127 = omega arith in
    sym (bit_at_cat_low (w / 2 ^ 127) 127 (w % 2 ^ 127) k lt) ∙ ap (λ x. bit_at x k) (sym parts)

up_later : (w k : ℕ) → k < 127 → lane (w * 2 % 2 ^ 128) (suc k) ≡ lane w k
up_later w k lt =
    let half : w * 2 % 2 ^ 128 / 2 ≡ w % 2 ^ 127 = omega arith in
    ap (λ x. x == 1) (bit_at-suc (w * 2 % 2 ^ 128) k ∙ (ap (λ x. bit_at x k) half ∙ low w k lt))

-- the highest lane of a word, brought to lane 0, leaves the others 0
down_first : (w : ℕ) → lane (w / 2 ^ 127) 0 ≡ lane w 127
down_first w =
    let parts : w / 2 ^ 127 * 2 ^ 127 + w % 2 ^ 127 ≡ w = omega arith in
    let few : w % 2 ^ 127 < 2 ^ 127 = omega arith in
    ap (λ x. x == 1) (sym (bit_at_cat_high (w / 2 ^ 127) 127 (w % 2 ^ 127) 127 few (omega arith))
    ∙ ap (λ x. bit_at x 127) parts)

down_later : (w k : ℕ) → w < 2 ^ 128 → lane (w / 2 ^ 127) (suc k) ≡ false
down_later w k fits = let few : w / 2 ^ 127 < 2 ^ 1 = omega (arith, fits) in
    ap (λ x. x == 1) (bit_at_above (w / 2 ^ 127) 1 (suc k) few (omega arith))

or_none : (b : Bool) → (b || false) ≡ b
or_none true = refl
or_none false = refl

pub before_first : (w last : ℕ) → lane (bit_or (w * 2 % 2 ^ 128) (last / 2 ^ 127)) 0 ≡ lane last 127
before_first w last = lane_or (w * 2 % 2 ^ 128) (last / 2 ^ 127) 0
    ∙ (ap (λ b. b || lane (last / 2 ^ 127) 0) (up_first w) ∙ down_first last)

pub before_later : (w last k : ℕ) → last < 2 ^ 128 → k < 127
    → lane (bit_or (w * 2 % 2 ^ 128) (last / 2 ^ 127)) (suc k) ≡ lane w k
before_later w last k fits lt = lane_or (w * 2 % 2 ^ 128) (last / 2 ^ 127) (suc k)
    ∙ (ap (λ b. lane (w * 2 % 2 ^ 128) (suc k) || b) (down_later last k fits)
    ∙ (or_none (lane (w * 2 % 2 ^ 128) (suc k)) ∙ up_later w k lt))
