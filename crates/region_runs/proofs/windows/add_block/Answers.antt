use Rattle.std.proofs.Common.{◌≡◌, arith, subst}
use Rattle.region_runs.proofs.WindowWords.{Adds, adds_all, adds_none, adds_one}
use Rattle.region_runs.proofs.windows.add_block.Goals as goal

pub loop-source-init : goal.loop-source-init
loop-source-init c = adds_none c.args.tests.now c.args.block c.args.words.items

pub loop-source-preserved : goal.loop-source-preserved
loop-source-preserved c =
    adds_one c.args.tests.now c.args.block c.args.words.items c.loop-source.words.items
    c.push.new.self.items c.loop-source.source c.word.result c.loop-source.invariant
    c.word.ensures (c.in_ok-push.ensures.items)

pub returns : goal.returns
returns c = λ from count are is.
    let full : c.loop-source.source ≡ c.args.tests.now.width = omega (
      arith,
      c.loop-source-test.false,
      c.loop-source.auto.source-end,
      c.width-source-end.ensures.width,
    ) in
    adds_all c.args.tests.now c.args.block c.args.words.items c.loop-source.words.items from count
    (subst (λ n. Adds c.args.tests.now c.args.block c.args.words.items c.loop-source.words.items n)
    full c.loop-source.invariant) are is
