use Rattle.std.proofs.{Common.{◌≡◌, ◌<◌, get_or, ap, sym, ◌∙◌, arith}, lemmas.List.get_or_read}
use Rattle.patterns.{specs.Words.word_at, proofs.TestWords.IsWord-from_words}
use Rattle.patterns.proofs.TestWords.{word_lists, word_lists-read, block_width, block_within}
use Rattle.patterns.proofs.test_text.Tests.word.Goals as goal

pub index-requires : goal.index-requires
index-requires c =
    let fields = c.self.inside in
    let block = block_within fields.width fields.count fields.words.items c.args.self.now
    c.args.block c.self.view_is c.self.invariant c.requires.block in
    omega (arith, fields.words.ok.0)

pub index-requires-2 : goal.index-requires-2
index-requires-2 c =
    let fields = c.self.inside in
    let block = block_within fields.width fields.count fields.words.items c.args.self.now
    c.args.block c.self.view_is c.self.invariant c.requires.block in
    let width = block_width fields.width fields.count fields.words.items c.args.block
    c.index.result.now c.self.invariant block c.index.ensures in
    omega (arith, c.index.result.now.ok.0, ap (λ t. t.width) c.self.view_is)

pub returns : goal.returns
returns c =
    let fields = c.self.inside in
    let words = fields.words.items in
    let row = c.index.result.now in
    let block = block_within fields.width fields.count words c.args.self.now c.args.block
    c.self.view_is c.self.invariant c.requires.block in
    let width = block_width fields.width fields.count words c.args.block row c.self.invariant block
    c.index.ensures in
    let source : c.args.source < fields.width = omega (arith, ap (λ t. t.width) c.self.view_is) in
    let found : c.index-2.result.now ≡ word_at (word_lists words) c.args.block c.args.source =
    get_or_read row.items c.args.source _ (omega arith) c.index-2.ensures 0
    ∙ ap (λ l. get_or l c.args.source 0)
    (sym (word_lists-read words c.args.block row block c.index.ensures))
    in λ k h. rw (found, ← c.self.view_is) (IsWord-from_words fields.width fields.count
    (word_lists words) c.args.block c.args.source c.self.invariant source k h)
