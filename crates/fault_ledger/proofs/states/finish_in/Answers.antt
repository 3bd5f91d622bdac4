use Rattle.std.proofs.Common.{◌≡◌, ℕ, Option, sym, arith, below_more}
use Rattle.fault_ledger.specs.{declared.Status.TheVariants.Settled, Settled.status}
use Rattle.fault_ledger.proofs.AllSettled.{finish-waits, finish-all, finish-none}
use Rattle.fault_ledger.proofs.states.finish_in.Goals as goal

pub returns-then-pieces-eq0 : goal.returns-then-pieces-eq0
returns-then-pieces-eq0 c = λ h legal e. sym (finish-none c.args.shape h
    (let a = c.pieces.ensures in let b = c.if-pieces-eq0.true in omega arith))

pub loop-class-init : goal.loop-class-init
loop-class-init c = λ h legal e k l. absurd (omega arith)

pub returns-in-Waiting : goal.returns-in-Waiting
returns-in-Waiting c = λ h legal e.
    sym (finish-waits (status c.args.shape h) c.args.shape.classes c.loop-class.class
    c.in-Waiting.block c.loop-class-test.true (c.loop-class.invariant h legal e)
    (sym (c.in-Waiting.ensures h legal e)))

pub returns : goal.returns
returns c = λ h legal e. sym (finish-all (status c.args.shape h) c.args.shape.classes (λ k l.
    c.loop-class.invariant h legal e k (let a = c.loop-class-test.false in omega arith)))

pub loop-class-preserved : goal.loop-class-preserved
loop-class-preserved c = λ h legal e.
    below_more (λ k. (at : Option ℕ) × (status c.args.shape h k ≡ Settled at)) c.loop-class.class
    (c.loop-class.invariant h legal e) (c.in_default.field-0, sym (c.in_default.ensures h legal e))
