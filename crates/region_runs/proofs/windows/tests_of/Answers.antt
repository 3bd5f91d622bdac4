use Rattle.std.proofs.Common.{◌≡◌, ◌-◌, arith, subst, sym}
use Rattle.region_runs.{specs.Windows.AreWordsFrom, proofs.WindowWords.{begins_before, words_none}}
use Rattle.region_runs.proofs.windows.tests_of.Goals as goal

pub loop-block-init : goal.loop-block-init
loop-block-init c = record {
  order = omega arith;
  words = words_none c.args.tests.now c.args.window.from (c.args.window.from - c.args.window.from)
      c.in_ok-words.words.items c.in_ok-words.ensures.items (omega arith);
}

pub loop-block-preserved : goal.loop-block-preserved
loop-block-preserved c =
    let was = c.loop-block.invariant in
    let from = c.args.window.from in
    let block = c.loop-block.block in
    record {
      order = omega (arith, was.order);
      words = subst (λ n. AreWordsFrom c.args.tests.now from n c.in_ok-words-2.words.items)
          (omega (arith, was.order))
          (c.in_ok-words-2.ensures from (block - from) was.words (omega (arith, was.order)));
    }

pub made_of-requires-clause-words : goal.made_of-requires-clause-words
made_of-requires-clause-words c =
    let was = c.loop-block.invariant in
    let window = c.args.window in
    let low = begins_before _ _ window c.requires.window.1 in
    let last : c.loop-block.block ≡ window.end = omega (
      arith,
      c.loop-block-test.false,
      c.loop-block.auto.block-end,
      low.0,
    ) in
    let own = subst (λ n. AreWordsFrom c.args.tests.now window.from (n - window.from)
    c.loop-block.words.items) last was.words in
    subst (AreWordsFrom c.args.tests.now window.from (window.end - window.from))
    (sym c.as_slice.ensures.value) own
