use Rattle.std.proofs.{Common.{◌∷◌, [], ap, arith, length, subst, sym}, lemmas.List.length-append}
use Rattle.faultsim_c.{specs.Following.{AreFirstWords, after_last}, proofs.MovedTests.words_more}
use Rattle.faultsim_c.proofs.following.push_block.Goals as goal

pub loop-source-preserved : goal.loop-source-preserved
loop-source-preserved c =
    let tests = after_last c.args.old.now.tests c.args.new.now.tests in
    let width = c.args.new.now.width in
    let before = c.loop-source.words.items in
    let word = c.moved_word.result in
    let was = c.loop-source.invariant in
    let items = c.in_ok-push.ensures.items in
    let long = ap length items in
    let more = length-append before (word ∷ []) in
    let count = was.count in
    record {
      count = omega (arith, long, more, count);
      are = subst (AreFirstWords tests width) (sym items)
          (words_more tests width before c.args.block c.loop-source.source word count
          (omega (arith, c.loop-source-test.true, c.width-source-end.ensures.width))
          c.moved_word.type_inv c.moved_word.ensures was.are);
    }
