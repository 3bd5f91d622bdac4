use Rattle.std.proofs.Common.{arith, inl, inr}
use Rattle.wide_words.proofs.copies.BothCopies.part.Goals as goal

pub returns-clause-own : goal.returns-clause-own
returns-clause-own c = c.part_of_group.ensures.own

pub returns-clause-rest : goal.returns-clause-rest
returns-clause-rest c = λ k out. elim out [
  | inl low ↦ absurd (omega (arith, low))
  | inr up ↦ c.part_of_group.ensures.rest k up
]
