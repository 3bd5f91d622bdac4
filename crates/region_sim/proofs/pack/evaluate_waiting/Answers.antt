use Rattle.std.{proofs.Common.{◌≡◌, ◌∙◌, ap, arith, set, sym, inl, inr}, specs.Int.Bits.or_zero_l}
use Rattle.std.specs.Prelude.{bit_and, bit_or, slice_index_or}
use Rattle.std.proofs.lemmas.{Bool.{cases_eq, false≢true}, List.{get_or-set_same, set-get_or}}
use Rattle.wide_words.{proofs.Public.some_lane, specs.Wide.number}
use Rattle.flat_circuit.specs.Words.{lane}
use Rattle.region_sim.proofs.pack.evaluate_waiting.Goals as goal

pub returns-then-is_none-clause-evaluated : goal.returns-then-is_none-clause-evaluated
returns-then-is_none-clause-evaluated g c =
    let delta = c.args.deltas.now in
    let gate = c.args.gate in
    let old = slice_index_or delta gate 0 in
    let same : old ≡ 0 = elim (cases_eq old 0) [
      | inl e ↦ e
      | inr ne ↦ absurd (false≢true (c.if-differs.ensures.1 ne))
    ] in
    let none : bit_and (number c.difference.result) (number c.args.kept) ≡ 0 =
    sym c.and-word.ensures ∙ c.is_none.ensures.0 c.if-is_none.true in (
      number c.difference.result,
      c.difference.ensures,
      sym (ap (λ b. set delta gate (bit_or old b)) none
          ∙ (ap (λ a. set delta gate (bit_or a 0)) same
          ∙ (ap (set delta gate) (sym same) ∙ set-get_or delta gate 0))),
    )

pub returns-clause-evaluated : goal.returns-clause-evaluated
returns-clause-evaluated g c =
    let delta = c.args.deltas.now in
    let gate = c.args.gate in
    let old = slice_index_or delta gate 0 in
    let same : old ≡ 0 = elim (cases_eq old 0) [
      | inl e ↦ e
      | inr ne ↦ absurd (false≢true (c.if-differs.ensures.1 ne))
    ] in
    let word = bit_and (number c.difference.result) (number c.args.kept) in (
      number c.difference.result,
      c.difference.ensures,
      c.change.ensures.changed ∙ (ap (set delta gate) (c.and-word.ensures ∙ sym (or_zero_l word))
          ∙ ap (λ a. set delta gate (bit_or a word)) (sym same)),
    )

pub returns-clause-some : goal.returns-clause-some
returns-clause-some g c = λ same some.
    let delta = c.args.deltas.now in
    let gate = c.args.gate in
    let word = c.and-word.result in
    let long = c.requires.room in
    let low = c.requires.within in
    let here : slice_index_or (set delta gate (number word)) gate 0 ≡ number word =
    get_or-set_same delta gate (number word) 0 (omega (arith, long, low)) in
    let is = ap (λ xs. slice_index_or xs gate 0) c.change.ensures.changed ∙ here in
    let one = some_lane word.parts word.fits word.room (λ none. some (is ∙ none)) in (
      one.0,
      one.1,
      ap (λ w. lane w one.0) is ∙ one.2,
    )
