use Rattle.std.proofs.Common.{rules, arith}
use Rattle.patterns.proofs.TestWords.{seen-count, block_start}
use Rattle.patterns.proofs.test_text.Tests.size_of.Goals as goal

pub overflow_mul-block : goal.overflow_mul-block
overflow_mul-block c =
    let fields = c.self.inside in
    let begins = block_start _ c.args.block c.requires in
    omega (
      arith,
      seen-count fields.width fields.count fields.words.items c.args.self.now c.self.view_is,
      c.self.invariant.limit,
    )

pub overflow_sub-self-inside : goal.overflow_sub-self-inside
overflow_sub-self-inside c =
    let fields = c.self.inside in
    let begins = block_start _ c.args.block c.requires in
    omega (
      arith,
      seen-count fields.width fields.count fields.words.items c.args.self.now c.self.view_is,
    )

pub returns : goal.returns
returns c = rw (seen-count c.self.inside.width c.self.inside.count c.self.inside.words.items
    c.args.self.now c.self.view_is) (search rules)
