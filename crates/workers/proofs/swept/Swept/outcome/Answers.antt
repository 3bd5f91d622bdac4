use Rattle.std.proofs.Common.{◌*◌, arith, subst}
use Rattle.workers.specs.Swept.{IsSweptFirst}
use Rattle.workers.proofs.SweptBlocks.{clear_before, clear_of_none, hit_in, known_at, place_low}
use Rattle.workers.proofs.swept.Swept.outcome.Goals as goal

pub index-requires-2 : goal.index-requires-2
index-requires-2 c =
    let s = c.loop-self.self in
    let low = place_low c.args.job.now s c.args.class c.index.result.now c.loop-self.invariant
    c.requires.class c.index.ensures in
    omega (arith, low, s.firsts.ok.0)

pub returns-in_default-clause-outcome : goal.returns-in_default-clause-outcome
returns-in_default-clause-outcome c =
    let s = c.loop-self.self in
    let known = known_at c.args.job.now s c.args.class c.index.result.now c.loop-self.invariant
    c.requires.class c.index.ensures c.index-2.result.now c.index-2.ensures in
    clear_of_none c.args.job.now c.args.class c.args.block (64 * s.blocks)
    (omega (arith, c.loop-self-test.false))
    (subst (IsSweptFirst c.args.job.now (64 * s.blocks) c.args.class) c.in_default.is known)

pub returns-then-test-block-2-clause-outcome : goal.returns-then-test-block-2-clause-outcome
returns-then-test-block-2-clause-outcome c =
    let s = c.loop-self.self in
    let known = known_at c.args.job.now s c.args.class c.index.result.now c.loop-self.invariant
    c.requires.class c.index.ensures c.index-2.result.now c.index-2.ensures in
    hit_in c.args.job.now c.args.class c.args.block (64 * s.blocks) c.in-Some.test
    (subst (IsSweptFirst c.args.job.now (64 * s.blocks) c.args.class) c.in-Some.is known)
    c.if-test-block-2.true

pub returns-clause-outcome : goal.returns-clause-outcome
returns-clause-outcome c =
    let s = c.loop-self.self in
    let known = known_at c.args.job.now s c.args.class c.index.result.now c.loop-self.invariant
    c.requires.class c.index.ensures c.index-2.result.now c.index-2.ensures in
    clear_before c.args.job.now c.args.class c.args.block (64 * s.blocks) c.in-Some.test
    (subst (IsSweptFirst c.args.job.now (64 * s.blocks) c.args.class) c.in-Some.is known)
    (omega (arith, c.if-test-block.false, c.if-test-block-2.false))
