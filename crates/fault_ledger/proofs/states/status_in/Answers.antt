use Rattle.std.proofs.Common.{◌≡◌, ℕ, ◌+◌, ◌*◌, ◌<◌, ◌≤◌, Some, None, arith, below_more}
use Rattle.patterns.specs.Tests.{max_pieces}
use Rattle.fault_ledger.specs.{declared.PieceState.TheVariants.Clear, History.block_count}
use Rattle.fault_ledger.specs.declared.Status.TheVariants.{Settled, Waiting}
use Rattle.fault_ledger.proofs.ClassStatus.{shown, shown-within, shown-hit, shown-skipped}
use Rattle.fault_ledger.proofs.ClassStatus.{shown-status, status-hit, status-open, status-none}
use Rattle.fault_ledger.proofs.ShapeLimits.{few_blocks}
use Rattle.fault_ledger.proofs.states.status_in.Goals as goal

pub bounds : goal.bounds
bounds c =
    let m : c.loop-block.block < block_count c.args.shape =
    (let a = c.blocks-block-end.ensures in let b = c.loop-block-test.true in omega arith) in
    shown-within c.args.shape c.args.states.now c.args.class c.loop-block.block c.requires.states
    c.requires.range m

pub overflow_add-result : goal.overflow_add-result
overflow_add-result c =
    let m : c.loop-block.block < block_count c.args.shape =
    (let a = c.blocks-block-end.ensures in let b = c.loop-block-test.true in omega arith) in
    let small = shown-hit c.args.shape c.args.states.now c.args.class c.loop-block.block
    c.in-Hit.test c.requires.states c.requires.range m c.in-Hit.is in
    let few : block_count c.args.shape ≤ max_pieces =
    few_blocks c.args.shape c.args.class c.requires.limits c.requires.range in
    omega arith

pub returns-in-Hit : goal.returns-in-Hit
returns-in-Hit c =
    let m : c.loop-block.block < block_count c.args.shape =
    (let a = c.blocks-block-end.ensures in let b = c.loop-block-test.true in omega arith) in
    λ h legal e. shown-status c.args.shape c.args.states.now h c.args.class
    (Settled (Some (64 * c.loop-block.block + c.in-Hit.test))) c.requires.range e
    (status-hit (shown c.args.shape c.args.states.now c.args.class) (block_count c.args.shape)
    c.loop-block.block c.in-Hit.test m c.loop-block.invariant c.in-Hit.is)

pub returns-in-Open : goal.returns-in-Open
returns-in-Open c =
    let m : c.loop-block.block < block_count c.args.shape =
    (let a = c.blocks-block-end.ensures in let b = c.loop-block-test.true in omega arith) in
    λ h legal e. shown-status c.args.shape c.args.states.now h c.args.class
    (Waiting c.loop-block.block) c.requires.range e
    (status-open (shown c.args.shape c.args.states.now c.args.class)
    (block_count c.args.shape) c.loop-block.block m c.loop-block.invariant c.in-Open.is)

pub unreachable-requires : goal.unreachable-requires
unreachable-requires c =
    let m : c.loop-block.block < block_count c.args.shape =
    (let a = c.blocks-block-end.ensures in let b = c.loop-block-test.true in omega arith) in
    shown-skipped c.args.shape c.args.states.now c.args.class c.loop-block.block c.requires.states
    c.requires.range m c.loop-block.invariant c.in-Skipped.is

pub returns : goal.returns
returns c =
    let all : (k : ℕ) → k < block_count c.args.shape
    → shown c.args.shape c.args.states.now c.args.class k ≡ Clear =
    λ k m. c.loop-block.invariant k (let a = c.blocks-block-end.ensures in
    let b = c.loop-block-test.false in omega arith) in
    λ h legal e. shown-status c.args.shape c.args.states.now h c.args.class
    (Settled None) c.requires.range e (status-none
    (shown c.args.shape c.args.states.now c.args.class) (block_count c.args.shape) all)

pub loop-block-preserved : goal.loop-block-preserved
loop-block-preserved c = below_more (λ k. shown c.args.shape c.args.states.now c.args.class k
    ≡ Clear) c.loop-block.block c.loop-block.invariant c.in-Clear.is
