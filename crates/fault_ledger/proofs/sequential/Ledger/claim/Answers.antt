use Rattle.std.proofs.Common.{◌≡◌, ◌+◌, ◌%◌, ◌/◌, ◌<◌, ◌≤◌, Some, set, length, slice_get, sym, ◌∙◌}
use Rattle.std.proofs.{Common.{subst, ap, arith}, lemmas.Option.slice_get_read}
use Rattle.patterns.specs.Tests.{max_pieces}
use Rattle.fault_ledger.specs.{declared.Refusal.TheVariants.Holding, History.piece_count}
use Rattle.fault_ledger.specs.{declared.Reply.TheVariants.{Claimed, Refused}, Face.{Face, Answers}}
use Rattle.fault_ledger.proofs.CallReplies.{faced, ledger-holding, ledger-states, ledger-few}
use Rattle.fault_ledger.proofs.CallReplies.{ledger-after, none_of, some_of, claim-holding}
use Rattle.fault_ledger.proofs.CallReplies.{claim-exhausted, claim-piece}
use Rattle.fault_ledger.proofs.sequential.Ledger.claim.Goals.{After-is_some}
use Rattle.fault_ledger.specs.declared.Claim.TheVariants as claim_is
use Rattle.fault_ledger.specs.declared.Call.TheVariants as call
use Rattle.fault_ledger.proofs.sequential.Ledger.claim.Goals as goal

pub index-requires : goal.index-requires
index-requires c =
    let s = c.self.inside in
    let f = faced s.shape s.claimed s.holding.items s.states.items in
    let a = ledger-holding f c.self.invariant.0 in
    let b = s.holding.ok in
    omega arith

-- the entry of the worker that claims is the one that was read
read : (c : After-is_some)
    → slice_get c.self.inside.holding.items c.args.worker ≡ Some c.index.result.now
read c =
    let s = c.self.inside in
    let f = faced s.shape s.claimed s.holding.items s.states.items in
    slice_get_read s.holding.items s.shape.workers c.args.worker c.index.result.now
    (sym (ledger-holding f c.self.invariant.0)) c.if-worker-self.false c.index.ensures

pub returns-then-is_some-clause-answer : goal.returns-then-is_some-clause-answer
returns-then-is_some-clause-answer c =
    let s = c.self.inside in
    let f = faced s.shape s.claimed s.holding.items s.states.items in
    let w = c.args.worker in
    let held = some_of c.index.result.now (sym c.is_some.ensures ∙ c.if-is_some.true) in
    subst (λ (g : Face). Answers g (call.Claim w) (Refused Holding) g) c.self.view_is
    (claim-holding f w held.0 (read (goal.at.returns-then-is_some-clause-answer c).After-is_some
    ∙ ap Some held.1))

pub returns-then-piece-len-clause-answer : goal.returns-then-piece-len-clause-answer
returns-then-piece-len-clause-answer c =
    let s = c.self.inside in
    let f = faced s.shape s.claimed s.holding.items s.states.items in
    let w = c.args.worker in
    let free = none_of c.index.result.now (sym c.is_some.ensures ∙ c.if-is_some.false) in
    let all : length s.states.items ≤ s.claimed = (let b = c.len.ensures in let d = s.states.ok in
    let e = c.if-piece-len.true in omega arith) in
    subst (λ (g : Face). Answers g (call.Claim w) (Claimed claim_is.Exhausted) g) c.self.view_is
    (claim-exhausted f w (read (goal.at.returns-then-piece-len-clause-answer c).After-is_some
    ∙ ap Some free) all)

pub index_mut-requires : goal.index_mut-requires
index_mut-requires c =
    let s = c.self.inside in
    let f = faced s.shape s.claimed s.holding.items s.states.items in
    let a = ledger-holding f c.self.invariant.0 in
    let b = s.holding.ok in
    omega arith

pub overflow_add-self : goal.overflow_add-self
overflow_add-self c =
    let s = c.self.inside in
    let f = faced s.shape s.claimed s.holding.items s.states.items in
    let a = ledger-states f c.self.invariant.0 in
    let few : piece_count s.shape ≤ max_pieces = ledger-few f c.self.invariant.0 in
    let b = c.len.ensures in
    let d = s.states.ok in
    let e = c.if-piece-len.false in
    omega arith

claims : (c : goal.After-self-2-1)
    → slice_get c.self.inside.holding.items c.args.worker ≡ Some c.index.result.now
    → (let s = c.self.inside in let f = faced s.shape s.claimed s.holding.items s.states.items in
    Answers f (call.Claim c.args.worker) (Claimed
    (claim_is.Piece (s.claimed % s.shape.classes) (s.claimed / s.shape.classes))) (faced s.shape
    (s.claimed + 1) (set s.holding.items c.args.worker (Some s.claimed)) s.states.items))
claims c found =
    let s = c.self.inside in
    let f = faced s.shape s.claimed s.holding.items s.states.items in
    let w = c.args.worker in
    let free = none_of c.index.result.now (sym c.is_some.ensures ∙ c.if-is_some.false) in
    let more : s.claimed < length s.states.items = (let b = c.len.ensures in let d = s.states.ok in
    let e = c.if-piece-len.false in omega arith) in
    claim-piece f w (found ∙ ap Some free) more

pub invariant_of-self : goal.invariant_of-self
invariant_of-self c =
    let s = c.self.inside in (
      ledger-after (faced s.shape s.claimed s.holding.items s.states.items) (s.claimed + 1)
          (set s.holding.items c.args.worker (Some s.claimed)) s.states.items
          (call.Claim c.args.worker) (Claimed (claim_is.Piece (s.claimed % s.shape.classes)
          (s.claimed / s.shape.classes))) c.self.invariant.0
          (claims c (read (goal.at.invariant_of-self c).After-is_some)),
      c.self.invariant.1,
    )

pub returns-clause-answer : goal.returns-clause-answer
returns-clause-answer c =
    let s = c.self.inside in
    let r = Claimed (claim_is.Piece (s.claimed % s.shape.classes) (s.claimed / s.shape.classes)) in
    let new = faced s.shape (s.claimed + 1)
    (set s.holding.items c.args.worker (Some s.claimed)) s.states.items in
    subst (λ (g : Face). Answers g (call.Claim c.args.worker) r new) c.self.view_is
    (claims c (read (goal.at.returns-clause-answer c).After-is_some))
