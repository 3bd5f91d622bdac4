use Rattle.std.proofs.Common.{subst}
use Rattle.flat_circuit.{specs.Words.IsGroupWord, proofs.Equations.{source_there, one_source}}
use Rattle.flat_circuit.proofs.Groups.{joined_words}
use Rattle.flat_circuit.proofs.words.source_word.Goals as goal

pub unreachable-requires : goal.unreachable-requires
unreachable-requires c =
    let there = source_there c.args.circuit.now.arranged c.args.signal
    c.requires.circuit.well_formed c.requires.signal c.requires.source in
    c.in-None.ensures.none there.0 there.1

pub returns : goal.returns
returns c = λ i at.
    subst (λ j. IsGroupWord c.args.tests.now.tests c.args.group j c.group_word.result)
    (one_source c.args.circuit.now.arranged c.args.signal c.requires.circuit.well_formed
    c.requires.signal c.in-Some.source i c.in-Some.ensures.place at)
    (joined_words c.args.tests.now.tests c.args.group c.in-Some.source c.word_at-low.result
    c.word_at-high.result c.group_word.result
    c.word_at-low.ensures c.word_at-high.ensures c.group_word.ensures.low c.group_word.ensures.high)
