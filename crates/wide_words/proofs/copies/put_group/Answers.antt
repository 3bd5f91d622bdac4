use Rattle.std.proofs.Common.{◌≡◌, ◌+◌, ◌*◌, ◌∙◌, ◌/◌, ◌%◌, ap, arith, inl, inr}
use Rattle.std.proofs.lemmas.Bool.{cases_lt}
use Rattle.wide_words.{specs.Lanes.lane, proofs.Halves.lane_zero}
use Rattle.wide_words.proofs.SlotParts.{two_high, two_low, two_other}
use Rattle.wide_words.proofs.copies.put_group.Goals as goal

pub returns-clause-own : goal.returns-clause-own
returns-clause-own c = λ k lt here. c.from_parts.ensures k lt ∙ elim (cases_lt (k % 128) 64) [
  | inl few ↦
      let part : k / 64 ≡ 2 * c.args.slot = omega (arith, few, here) in
      let same : k % 64 ≡ 0 + k % 128 = omega (arith, few) in
      ap (λ x. lane x (k % 64)) (two_low c.args.slot c.low_half.result c.high_half.result
      (k / 64) c.requires part)
      ∙ (c.low_half.ensures (k % 64) (omega arith) ∙ ap (lane c.args.lanes) same)
  | inr up ↦
      let part : k / 64 ≡ 2 * c.args.slot + 1 = omega (arith, up, here) in
      let same : 64 + k % 64 ≡ 0 + k % 128 = omega (arith, up) in
      ap (λ x. lane x (k % 64)) (two_high c.args.slot c.low_half.result c.high_half.result
      (k / 64) c.requires part)
      ∙ (c.high_half.ensures (k % 64) (omega arith) ∙ ap (lane c.args.lanes) same)
]

pub returns-clause-others : goal.returns-clause-others
returns-clause-others c = λ k lt other. c.from_parts.ensures k lt
    ∙ (ap (λ x. lane x (k % 64)) (two_other c.args.slot c.low_half.result c.high_half.result
    (k / 64) (omega arith) (omega (arith, other)) (omega (arith, other))) ∙ lane_zero (k % 64))
