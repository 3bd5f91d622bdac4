use Rattle.std.proofs.Common.{◌≡◌, ◌+◌, ℕ, arith, subst}
use Rattle.flat_circuit.{specs.Words.IsGroupWord, proofs.FourWords.of_four}
use Rattle.flat_circuit.proofs.four_words.source_words.Goals as goal

pub returns : goal.returns
returns c = λ slot i lt at.
    let tests = c.args.tests.now.tests in
    let P : ℕ → ℕ → Type 0 = λ slot word. IsGroupWord tests (c.args.group + slot) i word in
    let same : c.args.group ≡ c.args.group + 0 = omega arith in
    of_four P c.source_word.result c.source_word-2.result c.source_word-3.result
    c.source_word-4.result
    (subst (λ n. IsGroupWord tests n i c.source_word.result) same (c.source_word.ensures i at))
    (c.source_word-2.ensures i at) (c.source_word-3.ensures i at) (c.source_word-4.ensures i at)
    slot lt
