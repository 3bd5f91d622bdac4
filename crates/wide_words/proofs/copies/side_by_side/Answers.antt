use Rattle.std.proofs.Common.{◌≡◌, ◌<◌, ◌+◌, ◌∙◌, ℕ}
use Rattle.wide_words.{specs.Lanes.lane, proofs.SlotParts.{each_of, four_lane}}
use Rattle.wide_words.proofs.copies.side_by_side.Goals as goal

pub returns : goal.returns
returns c = λ k lt. c.from_parts.ensures k lt
    ∙ four_lane c.low_half.result c.high_half.result c.low_half-2.result c.high_half-2.result
    c.low_half-3.result c.high_half-3.result c.low_half-4.result c.high_half-4.result c.args.first
    c.args.second c.args.third c.args.fourth
    (λ q j. each_of (λ x y. j < 64 → lane x j ≡ lane y j) c.low_half.result c.low_half-2.result
    c.low_half-3.result c.low_half-4.result c.args.first c.args.second c.args.third
    c.args.fourth (c.low_half.ensures j) (c.low_half-2.ensures j) (c.low_half-3.ensures j)
    (c.low_half-4.ensures j) q)
    (λ q j. each_of (λ x y. j < 64 → lane x j ≡ lane y (64 + j)) c.high_half.result
    c.high_half-2.result c.high_half-3.result c.high_half-4.result c.args.first c.args.second
    c.args.third c.args.fourth (c.high_half.ensures j) (c.high_half-2.ensures j)
    (c.high_half-3.ensures j) (c.high_half-4.ensures j) q) k lt
