use Rattle.std.proofs.Common.{◌≡◌, ◌<◌, ◌≤◌, true, Some, None, ap, sym, ◌∙◌, subst, arith}
use Rattle.fault_ledger.specs.declared.{Shape.Shape, Event.Event, Reply.TheVariants.Claimed}
use Rattle.fault_ledger.specs.{History.{claims, piece_count}, Answer.answer}
use Rattle.fault_ledger.{specs.Seats.{Place, Sitter, IsSeated, Sees}, proofs.Histories.held_goes_on}
use Rattle.fault_ledger.proofs.CallReplies.{none_of}
use Rattle.fault_ledger.proofs.SeatSteps.{seated_ends, seated_makes, exhausted_at}
use Rattle.fault_ledger.specs.declared.Claim.TheVariants as claim_is
use Rattle.fault_ledger.specs.declared.Call.TheVariants as call
use Rattle.fault_ledger.proofs.shared.SharedLedger.claim.Goals as goal

-- the step of a claim that finds no piece
abbrev Ends : goal.After-seat-1 → Type 0
Ends c = let i = c.seat.inside in let now = c.claim-piece.new.token in
    (i.piece ≡ None) × Sees i.token true now × (claims now.seen ≡ piece_count i.token.place.shape)

ends : (c : goal.After-seat-1) → Ends c
ends c =
    let i = c.seat.inside in
    let s = c.self.inside in
    let at : i.token.place ≡ s.words = ap (λ (a : Sitter). a.place) c.seat.view_is ∙ c.requires
    ∙ sym c.self.view_is in
    let many : piece_count s.shape ≤ c.claim-piece.result =
    (let a = c.pieces.ensures in let b = c.if-piece-pieces.true in omega arith) in
    let e = c.claim-piece.ensures.none
    (subst (λ (x : Shape). piece_count x ≤ c.claim-piece.result) (sym c.self.invariant) many) in (
      none_of i.piece (sym c.is_some.ensures ∙ c.if-is_some.false),
      e.0,
      e.1 ∙ ap (λ (p : Place). piece_count p.shape) (sym at),
    )

pub invariant_of-seat : goal.invariant_of-seat
invariant_of-seat c =
    let i = c.seat.inside in
    let e = ends c in
    seated_ends i.token c.claim-piece.new.token i.worker i.exhausted i.row i.piece
    i.remembered.items c.seat.invariant e.0 e.1 e.2

pub returns-then-piece-pieces-clause-exhausted : goal.returns-then-piece-pieces-clause-exhausted
returns-then-piece-pieces-clause-exhausted c = λ _ _.
    let i = c.seat.inside in
    let now = c.claim-piece.new.token in
    let e = ends c in
    let free = held_goes_on i.token.worker now.seen i.token.seen e.1.newer
    ∙ sym c.seat.invariant.piece_is ∙ e.0 in (
      subst (λ (a : Sitter). Sees a true now) c.seat.view_is e.1,
      subst (λ (a : Sitter). Claimed claim_is.Exhausted ≡ answer a.place.shape now.seen (call.Claim
          a.worker)) c.seat.view_is (exhausted_at i.token now.seen c.seat.invariant.sitter free e.2)
          ∙ ap (λ (p : Place).
          answer p.shape now.seen (call.Claim c.args.seat.now.worker)) c.requires,
    )

pub invariant_of-seat-2 : goal.invariant_of-seat-2
invariant_of-seat-2 c =
    let i = c.seat.inside in
    let s = c.self.inside in
    let now = c.claim-piece.new.token in
    let at : i.token.place ≡ s.words = ap (λ (a : Sitter). a.place) c.seat.view_is ∙ c.requires
    ∙ sym c.self.view_is in
    let some : c.claim-piece.result < piece_count s.shape =
    (let a = c.pieces.ensures in let b = c.if-piece-pieces.false in omega arith) in
    let within =
    subst (λ (x : Shape). c.claim-piece.result < piece_count x) (sym c.self.invariant) some in
    let seated = seated_makes i.token now (Event.Claim i.token.worker) _ i.worker i.exhausted i.row
    i.piece (Some c.claim-piece.result) i.remembered.items c.seat.invariant
    (sym c.seat.invariant.exhausted_is ∙ c.if-seat.false) (c.claim-piece.ensures.piece within)
    (c.claim-piece.ensures.held within) in
    subst (λ n. IsSeated now i.worker i.exhausted n (Some c.claim-piece.result) i.remembered.items)
    (sym c.turn_to-class.ensures.classes) seated
