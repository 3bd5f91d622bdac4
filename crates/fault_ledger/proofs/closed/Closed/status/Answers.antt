use Rattle.std.proofs.Common.{◌≡◌, ◌+◌, ◌*◌, ◌<◌, ◌≤◌, List, map, slice_index, Some, None, sym, ap}
use Rattle.std.proofs.Common.{◌∙◌, subst, arith}
use Rattle.patterns.specs.Tests.{max_pieces}
use Rattle.fault_ledger.specs.declared.{PieceState.PieceState, Status.Status}
use Rattle.fault_ledger.specs.{declared.Status.TheVariants.{Settled, Waiting}, Answer.IsLegal}
use Rattle.fault_ledger.specs.{History.{History, block_count, states_of}, Settled.status}
use Rattle.fault_ledger.specs.{Heads.{state_in, IsHead}, Seats.{ClosedFace, closed_face}}
use Rattle.fault_ledger.{specs.Words.state_at, proofs.ShapeLimits.few_blocks}
use Rattle.fault_ledger.proofs.ClassStatus.{shown-hit, shown-skipped, shown-status, status-hit}
use Rattle.fault_ledger.proofs.ClassStatus.{status-open, status-none}
use Rattle.fault_ledger.proofs.closed.Closed.status.Goals.{After-clear_of-clear, After-deref-2}
use Rattle.fault_ledger.proofs.closed.Closed.status.Goals.{After-state_of}
use Rattle.fault_ledger.proofs.closed.Closed.status.Goals as goal

-- the states that the codes stand for
abbrev states : (c : After-clear_of-clear) → List PieceState
states c = map state_at c.self.inside.codes.items

within : (c : After-clear_of-clear) → c.args.class < c.self.inside.shape.classes
within c =
    subst (λ (f : ClosedFace). c.args.class < f.shape.classes) (sym c.self.view_is) c.requires

-- the end of the clear blocks of the class
head : (c : After-clear_of-clear)
    → IsHead c.self.inside.shape (states c) c.args.class c.clear_of-clear.result
head c =
    let i = c.self.inside in
    let is = c.clear_of-clear.ensures
    ∙ ap (λ heads. slice_index heads c.args.class) c.deref.ensures.value in
    subst (IsHead i.shape (states c) c.args.class) (sym is)
    (c.self.invariant.2.each c.args.class (within c))

-- a block of the class is next
next : (c : After-deref-2) → c.clear_of-clear.result < block_count c.self.inside.shape
next c =
    let most = (head (goal.at.state_of-requires-clause-range c).After-clear_of-clear).most in
    let count = c.blocks-2.ensures in
    let other = c.if-clear-blocks.false in
    omega (arith, most, count, other)

-- the state at the block
found : (c : After-state_of) → c.state_of.result ≡ state_in c.self.inside.shape
    (map state_at c.self.inside.codes.items) c.args.class c.clear_of-clear.result
found c = c.state_of.ensures ∙ ap (λ codes. state_in c.self.inside.shape
    (map state_at codes) c.args.class c.clear_of-clear.result) c.deref-2.ensures.value

-- the status that the states show, in the form of the clause
shows : (c : After-clear_of-clear) (x : Status)
    → ((h : History) → IsLegal c.self.inside.shape h → states c ≡ states_of c.self.inside.shape h
    → x ≡ status c.self.inside.shape h c.args.class)
    → (h : History) → IsLegal c.args.self.now.shape h → c.args.self.now
    ≡ closed_face c.args.self.now.shape h → x ≡ status c.args.self.now.shape h c.args.class
shows c x is =
    subst (λ (f : ClosedFace). (h : History) → IsLegal f.shape h → f ≡ closed_face f.shape h
    → x ≡ status f.shape h c.args.class) c.self.view_is
    (λ h legal e. is h legal (ap (λ (f : ClosedFace). f.states) e))

pub returns-then-clear-blocks-clause-status : goal.returns-then-clear-blocks-clause-status
returns-then-clear-blocks-clause-status c =
    let at = (goal.at.returns-then-clear-blocks-clause-status c).After-clear_of-clear in
    let s = c.self.inside.shape in
    let end : block_count s ≤ c.clear_of-clear.result =
    (let a = c.if-clear-blocks.true in let b = c.blocks-2.ensures in omega arith) in
    shows at (Settled None)
    (λ h legal e. shown-status s (states at) h c.args.class (Settled None) (within at) e
    (status-none (state_in s (states at) c.args.class) (block_count s)
    (λ k l. (head at).clear k (omega arith))))

pub state_of-requires-clause-range : goal.state_of-requires-clause-range
state_of-requires-clause-range c =
    (within (goal.at.state_of-requires-clause-range c).After-clear_of-clear, next c)

pub overflow_mul-result : goal.overflow_mul-result
overflow_mul-result c =
    let at = goal.at.overflow_mul-result c in
    let l = next at.After-deref-2 in
    let few : block_count c.self.inside.shape ≤ max_pieces = few_blocks c.self.inside.shape
    c.args.class c.self.invariant.0 (within at.After-clear_of-clear) in
    omega (arith, l, few)

pub overflow_add-result : goal.overflow_add-result
overflow_add-result c =
    let at = goal.at.overflow_add-result c in
    let l = next at.After-deref-2 in
    let few : block_count c.self.inside.shape ≤ max_pieces = few_blocks c.self.inside.shape
    c.args.class c.self.invariant.0 (within at.After-clear_of-clear) in
    let small = shown-hit c.self.inside.shape (states at.After-clear_of-clear) c.args.class
    c.clear_of-clear.result c.in-Hit.test c.self.invariant.1 (within at.After-clear_of-clear) l
    (sym (found at.After-state_of) ∙ c.in-Hit.is) in
    omega (arith, l, few, small)

pub unreachable-requires : goal.unreachable-requires
unreachable-requires c =
    let at = goal.at.unreachable-requires c in
    (head at.After-clear_of-clear).next (next at.After-deref-2) (sym (found at.After-state_of)
    ∙ c.in-Clear.is)

pub unreachable-requires-in-Skipped : goal.unreachable-requires-in-Skipped
unreachable-requires-in-Skipped c =
    let at = goal.at.unreachable-requires-in-Skipped c in
    shown-skipped c.self.inside.shape
    (states at.After-clear_of-clear) c.args.class c.clear_of-clear.result c.self.invariant.1
    (within at.After-clear_of-clear) (next at.After-deref-2)
    (head at.After-clear_of-clear).clear (sym (found at.After-state_of) ∙ c.in-Skipped.is)

pub returns-in-Hit-clause-status : goal.returns-in-Hit-clause-status
returns-in-Hit-clause-status c =
    let at = goal.at.returns-in-Hit-clause-status c in
    let s = c.self.inside.shape in
    let own = at.After-clear_of-clear in
    let x = Settled (Some (64 * c.clear_of-clear.result + c.in-Hit.test)) in
    shows own x (λ h legal e. shown-status s (states own) h c.args.class x (within own) e
    (status-hit (state_in s (states own) c.args.class)
    (block_count s) c.clear_of-clear.result c.in-Hit.test (next at.After-deref-2)
    (head own).clear (sym (found at.After-state_of) ∙ c.in-Hit.is)))

pub returns-in-Open-clause-status : goal.returns-in-Open-clause-status
returns-in-Open-clause-status c =
    let at = goal.at.returns-in-Open-clause-status c in
    let s = c.self.inside.shape in
    let own = at.After-clear_of-clear in
    let x = Waiting c.clear_of-clear.result in
    shows own x (λ h legal e. shown-status s (states own) h c.args.class x (within own) e
    (status-open (state_in s (states own) c.args.class) (block_count s) c.clear_of-clear.result
    (next at.After-deref-2) (head own).clear (sym (found at.After-state_of) ∙ c.in-Open.is)))
