use Rattle.std.proofs.Common.{◌≡◌, ◌+◌, ◌-◌, ◌*◌, ◌∙◌, ◌%◌, ap, arith, inl, inr}
use Rattle.std.proofs.lemmas.Bool.{cases_lt}
use Rattle.wide_words.{specs.Lanes.lane, specs.Wide.number, proofs.Halves.lane_zero}
use Rattle.wide_words.proofs.copies.LowCopies.part.Goals as goal

pub returns-clause-own : goal.returns-clause-own
returns-clause-own c = λ k lt here.
    let same : 0 + k % 64 ≡ k % 64 = omega arith in
    let place : 64 * c.args.slot + k % 64 ≡ k = omega (arith, here) in
    ap (lane c.joined.result) same ∙ (c.joined.ensures.low (k % 64) (omega arith)
    ∙ (c.to_parts.ensures c.args.slot (k % 64) (omega arith)
    ∙ ap (lane (number c.args.word)) place))

pub returns-clause-rest : goal.returns-clause-rest
returns-clause-rest c = λ k out. elim out [
  | inl low ↦ absurd (omega (arith, low))
  | inr up ↦ elim (cases_lt k 128) [
    | inl lt ↦
        let back : k ≡ 64 + (k - 64) = omega (arith, up) in
        ap (lane c.joined.result) back
        ∙ (c.joined.ensures.high (k - 64) (omega (arith, lt, up)) ∙ lane_zero (k - 64))
    | inr le ↦ c.joined.ensures.rest k le
  ]
]
