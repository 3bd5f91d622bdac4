use Rattle.std.proofs.Common.{◌≡◌, ◌<◌, ℕ, Option, sym, ap, subst, arith, below_more}
use Rattle.fault_ledger.specs.{declared.Status.TheVariants.Settled, History.piece_count}
use Rattle.fault_ledger.specs.{Settled.status, Seats.{ClosedFace, closed_of}}
use Rattle.fault_ledger.proofs.AllSettled.{finish-waits, finish-all, finish-none}
use Rattle.fault_ledger.proofs.closed.Closed.finished.Goals as goal

pub returns-then-pieces-eq0-clause-finish : goal.returns-then-pieces-eq0-clause-finish
returns-then-pieces-eq0-clause-finish c = λ h legal e.
    let none : piece_count c.self.inside.shape ≡ 0 =
    (let a = c.pieces.ensures in let b = c.if-pieces-eq0.true in omega arith) in
    sym (finish-none c.args.self.now.shape h
    (subst (λ (f : ClosedFace). piece_count f.shape ≡ 0) c.self.view_is none))

pub returns-in-Waiting-clause-finish : goal.returns-in-Waiting-clause-finish
returns-in-Waiting-clause-finish c = λ h legal e.
    let f = c.args.self.now in
    let l = ap (λ (g : ClosedFace). g.states) e in
    let some = subst (λ (g : ClosedFace).
    c.loop-class.class < g.shape.classes) c.self.view_is c.loop-class-test.true in
    sym (finish-waits (status f.shape h) f.shape.classes c.loop-class.class c.in-Waiting.block some
    (c.loop-class.invariant h legal l) (sym (c.in-Waiting.ensures.status h legal e)))

pub loop-class-preserved : goal.loop-class-preserved
loop-class-preserved c = λ h legal l.
    let f = c.args.self.now in
    below_more (λ k. (at : Option ℕ) × (status f.shape h k ≡ Settled at)) c.loop-class.class
    (c.loop-class.invariant h legal l)
    (c.in_default.field-0, sym (c.in_default.ensures.status h legal (ap (closed_of f.shape) l)))

pub returns-clause-finish : goal.returns-clause-finish
returns-clause-finish c = λ h legal e.
    let f = c.args.self.now in
    let l = ap (λ (g : ClosedFace). g.states) e in
    let many = ap (λ (g : ClosedFace). g.shape.classes) c.self.view_is in
    sym (finish-all (status f.shape h) f.shape.classes (λ k m. c.loop-class.invariant h legal l k
    (let a = c.loop-class-test.false in omega (arith, a, m, many))))
