use Rattle.std.proofs.Common.{◌<◌, ◌^◌, ◌∙◌, ap, arith}
use Rattle.wide_words.{specs.Lanes.lane, proofs.Halves.{joined_high, joined_low, joined_rest}}
use Rattle.wide_words.proofs.copies.joined.Goals as goal

pub returns-clause-low : goal.returns-clause-low
returns-clause-low c = λ k lt.
    let below : c.from.result < 2 ^ 64 = omega (arith, c.from.ensures) in
    let above : c.from-2.result < 2 ^ 64 = omega (arith, c.from-2.ensures) in
    joined_low c.from.result c.from-2.result below above k lt ∙ ap (λ x. lane x k) c.from.ensures

pub returns-clause-high : goal.returns-clause-high
returns-clause-high c = λ k lt.
    let below : c.from.result < 2 ^ 64 = omega (arith, c.from.ensures) in
    let above : c.from-2.result < 2 ^ 64 = omega (arith, c.from-2.ensures) in
    joined_high c.from.result c.from-2.result below above k ∙ ap (λ x. lane x k) c.from-2.ensures

pub returns-clause-rest : goal.returns-clause-rest
returns-clause-rest c = λ k le.
    let below : c.from.result < 2 ^ 64 = omega (arith, c.from.ensures) in
    let above : c.from-2.result < 2 ^ 64 = omega (arith, c.from-2.ensures) in
    joined_rest c.from.result c.from-2.result below above k le
