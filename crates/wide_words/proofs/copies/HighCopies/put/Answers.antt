use Rattle.std.proofs.Common.{◌≡◌, ◌+◌, ◌∙◌, ◌/◌, ◌%◌, ap, arith}
use Rattle.wide_words.{specs.Lanes.lane, proofs.Halves.lane_zero}
use Rattle.wide_words.proofs.SlotParts.{one_other, one_same}
use Rattle.wide_words.proofs.copies.HighCopies.put.Goals as goal

pub returns-clause-own : goal.returns-clause-own
returns-clause-own c = λ k lt here.
    let same : k % 64 ≡ 0 + k % 64 = omega arith in
    c.from_parts.ensures k lt ∙ (ap (λ x. lane x (k % 64))
    (one_same c.args.slot c.high_half.result (k / 64) c.requires here)
    ∙ (c.high_half.ensures (k % 64) (omega arith)))

pub returns-clause-others : goal.returns-clause-others
returns-clause-others c = λ k lt other. c.from_parts.ensures k lt ∙ (ap (λ x. lane x (k % 64))
    (one_other c.args.slot c.high_half.result (k / 64) (omega arith) other) ∙ lane_zero (k % 64))
