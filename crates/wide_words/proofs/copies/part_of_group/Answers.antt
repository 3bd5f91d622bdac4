use Rattle.std.proofs.{Common.{◌≡◌, ◌+◌, ◌*◌, ◌∙◌, ◌%◌, ap, arith, inl, inr}, lemmas.Bool.cases_lt}
use Rattle.wide_words.specs.{Lanes.lane, Wide.number}
use Rattle.wide_words.proofs.copies.part_of_group.Goals as goal

pub returns-clause-own : goal.returns-clause-own
returns-clause-own c = λ k lt here. elim (cases_lt (k % 128) 64) [
  | inl few ↦
      let same : 0 + k % 128 ≡ k % 64 = omega (arith, few) in
      let place : 64 * (2 * c.args.slot) + k % 64 ≡ k = omega (arith, here, few) in
      ap (lane c.joined.result) same ∙ (c.joined.ensures.low (k % 64) (omega arith)
      ∙ (c.to_parts-parts.ensures (2 * c.args.slot) (k % 64) (omega arith)
      ∙ ap (lane (number c.args.word)) place))
  | inr up ↦
      let same : 0 + k % 128 ≡ 64 + k % 64 = omega (arith, up) in
      let place : 64 * (2 * c.args.slot + 1) + k % 64 ≡ k = omega (arith, here, up) in
      ap (lane c.joined.result) same ∙ (c.joined.ensures.high (k % 64) (omega arith)
      ∙ (c.to_parts-parts.ensures (2 * c.args.slot + 1) (k % 64) (omega arith)
      ∙ ap (lane (number c.args.word)) place))
]

pub returns-clause-rest : goal.returns-clause-rest
returns-clause-rest c = c.joined.ensures.rest
