use Rattle.std.proofs.{Common.rules, lemmas.Iterator.Splits.YieldsList-from_slice_split}
use Rattle.std.proofs.lemmas.Iterator.Consumers.{YieldsList-from_filter, map_from_collect}
use borrow.Author.Tests.{tests}
use Rattle.text_lines.specs.Lines.{is_blank}
use Rattle.test_columns.specs.Columns.{is_word}
use Rattle.test_columns.proofs.line.split_words.Goals as goal

pub returns : goal.returns
returns c = map_from_collect _ c.collect.ensures.ran (YieldsList-from_filter _ is_word
    (YieldsList-from_slice_split _ is_blank c.args.bytes.now (cc) (cc) (cc)
    (λ x r q k. search (rules, tests))) c.filter.ensures.closure (λ x r q k. search (rules, tests)))
