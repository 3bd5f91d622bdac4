use Rattle.std.proofs.Common.{◌≡◌, ◌<◌, ◌≤◌, ◌^◌, ◌*◌, ◌%◌, ◌-◌, ℕ, sym, ◌∙◌, ap, arith, inl, inr}
use Rattle.std.{proofs.Common.◌⊎◌, specs.Prelude.{nat_lt, ◌==◌}, proofs.lemmas.Nat.pow_below}
use Rattle.std.proofs.lemmas.{Bool.{cases_lt, lt-ltb, le-ltb}, Nat.Bits.bit_at_ones_above}
use Rattle.flat_circuit.{specs.Words.lane, proofs.Lanes.lane_ones}
use Rattle.flat_circuit.proofs.block_lanes.lanes_below.Goals as goal

masked : (size k : ℕ) → lane (2 ^ size - 1) k ≡ nat_lt k size
masked size k = go (cases_lt k size)
  where
    go : (k < size) ⊎ (size ≤ k) → lane (2 ^ size - 1) k ≡ nat_lt k size
    go (inl lt) = lane_ones size k lt ∙ sym (lt-ltb k size lt)
    go (inr le) = ap (λ x. x == 1) (bit_at_ones_above size k le) ∙ sym (le-ltb k size le)

pub returns-then-size-eq128 : goal.returns-then-size-eq128
returns-then-size-eq128 c = λ k lt. lane_ones 128 k lt ∙ sym (lt-ltb k c.args.size (omega arith))

pub returns-else-size-eq128 : goal.returns-else-size-eq128
returns-else-size-eq128 c = λ k lt.
    let fits : 2 ^ c.args.size < 2 ^ 128 = pow_below c.args.size 128 (omega arith) in
    let same : 1 * 2 ^ c.args.size % 340282366920938463463374607431768211456 ≡ 2 ^ c.args.size =
    omega arith in
    ap (λ x. lane (x - 1) k) same ∙ masked c.args.size k
