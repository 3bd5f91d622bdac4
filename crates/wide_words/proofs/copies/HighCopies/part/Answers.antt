use Rattle.std.proofs.Common.{◌≡◌, ◌+◌, ◌*◌, ◌∙◌, ◌%◌, ap, arith, inl, inr}
use Rattle.wide_words.{specs.Lanes.lane, specs.Wide.number, proofs.Halves.lane_zero}
use Rattle.wide_words.proofs.copies.HighCopies.part.Goals as goal

pub returns-clause-own : goal.returns-clause-own
returns-clause-own c = λ k lt here.
    let place : 64 * c.args.slot + k % 64 ≡ k = omega (arith, here) in
    c.joined.ensures.high (k % 64) (omega arith)
    ∙ (c.to_parts.ensures c.args.slot (k % 64) (omega arith) ∙ ap (lane (number c.args.word)) place)

pub returns-clause-rest : goal.returns-clause-rest
returns-clause-rest c = λ k out. elim out [
  | inl low ↦ c.joined.ensures.low k low ∙ lane_zero k
  | inr up ↦ c.joined.ensures.rest k up
]
