use Rattle.std.proofs.{Common.{◌≡◌, ◌*◌, length, ap, ◌∙◌, arith, rules}, lemmas.List.length-map}
use Rattle.patterns.{specs.Tests.blocks, proofs.MadeTests.{AreWords-from_rows, IsMadeOf-from_rows}}
use Rattle.patterns.proofs.TestWords.{word_lists, IsTestList-from_words}
use Rattle.patterns.proofs.test_text.Tests.from_words.Goals as goal

pub invariant_of-result : goal.invariant_of-result
invariant_of-result c =
    let rows = c.in_ok-words.words.items in
    let block_count : c.div_ceil-blocks.result ≡ blocks c.args.count = search rules in
    let word_count : length c.args.words.now ≡ c.args.width * blocks c.args.count =
    c.if-words-width.false ∙ ap (λ n. c.args.width * n) block_count in
    AreWords-from_rows c.args.width c.args.count c.args.words.now (λ i. (c.type_inv.words i).fits)
    (word_lists rows) (omega arith) word_count
    (length-map rows _ ∙ c.in_ok-words.ensures.count ∙ block_count)
    (λ block h. c.in_ok-words.ensures.rows block (omega (arith, h, block_count)))
    c.in_ok-check_idle_bits.ensures.accepted

pub returns-clause-tests : goal.returns-clause-tests
returns-clause-tests c =
    let rows = c.in_ok-words.words.items in
    let block_count : c.div_ceil-blocks.result ≡ blocks c.args.count = search rules in
    let word_count : length c.args.words.now ≡ c.args.width * blocks c.args.count =
    c.if-words-width.false ∙ ap (λ n. c.args.width * n) block_count in
    IsMadeOf-from_rows c.args.width c.args.count c.args.words.now (λ i. (c.type_inv.words i).fits)
    (word_lists rows) (omega arith) word_count
    (length-map rows _ ∙ c.in_ok-words.ensures.count ∙ block_count)
    (λ block h. c.in_ok-words.ensures.rows block (omega (arith, h, block_count)))
    c.in_ok-check_idle_bits.ensures.accepted

pub returns-clause-list : goal.returns-clause-list
returns-clause-list c =
    let rows = c.in_ok-words.words.items in
    let block_count : c.div_ceil-blocks.result ≡ blocks c.args.count = search rules in
    let word_count : length c.args.words.now ≡ c.args.width * blocks c.args.count =
    c.if-words-width.false ∙ ap (λ n. c.args.width * n) block_count in
    IsTestList-from_words c.args.width c.args.count (word_lists rows)
    (AreWords-from_rows c.args.width c.args.count c.args.words.now (λ i. (c.type_inv.words i).fits)
    (word_lists rows) (omega arith) word_count
    (length-map rows _ ∙ c.in_ok-words.ensures.count ∙ block_count)
    (λ block h. c.in_ok-words.ensures.rows block (omega (arith, h, block_count)))
    c.in_ok-check_idle_bits.ensures.accepted)
