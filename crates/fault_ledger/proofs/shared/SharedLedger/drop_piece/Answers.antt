use Rattle.std.proofs.Common.{◌≡◌, ◌<◌, Some, None, false, true≢false, refl, ap, sym, ◌∙◌, subst}
use Rattle.fault_ledger.specs.declared.{Event.Event, Reply.TheVariants.Done}
use Rattle.fault_ledger.specs.History.{History, ContinuesWithout, held_by, block_of, piece_count}
use Rattle.fault_ledger.specs.{Answer.has_earlier_hit, Seats.{Place, Sitter, IsSitter, Makes}}
use Rattle.fault_ledger.proofs.SeatSteps.{seated_piece, seated_same, seated_makes, untold}
use Rattle.fault_ledger.proofs.SeatSteps.{dropped_free, held_sees, finds_nothing, makes_after}
use Rattle.fault_ledger.proofs.shared.SharedLedger.drop_piece.Goals.{In-Some}
use Rattle.fault_ledger.proofs.shared.SharedLedger.drop_piece.Goals as goal

-- the seat holds the piece
holding : (c : In-Some) → held_by c.args.seat.now.worker c.args.seat.now.seen ≡ Some c.in-Some.piece
holding c = ap (λ (x : Sitter). held_by x.worker x.seen) (sym c.seat.view_is)
    ∙ sym c.seat.invariant.piece_is ∙ c.in-Some.is

pub finds_earlier_hit-requires-clause-piece : goal.finds_earlier_hit-requires-clause-piece
finds_earlier_hit-requires-clause-piece c =
    let i = c.seat.inside in
    let at : i.token.place ≡ c.args.self.now = ap (λ (a : Sitter). a.place) c.seat.view_is
    ∙ c.requires in
    subst (λ (p : Place). c.in-Some.piece < piece_count p.shape) at (seated_piece i.token i.worker
    i.exhausted i.row i.piece i.remembered.items c.in-Some.piece c.seat.invariant c.in-Some.is)

pub returns-then-not-finds_earlier_hit-clause-no_earlier_hit
    : goal.returns-then-not-finds_earlier_hit-clause-no_earlier_hit
returns-then-not-finds_earlier_hit-clause-no_earlier_hit c = λ _.
    let a = c.args.seat.now in
    let now = c.finds_earlier_hit.new.seat in
    let p = c.in-Some.piece in
    let f = c.finds_earlier_hit.ensures in
    let none = subst (λ (x : Place). (h : History) × ContinuesWithout a.worker h a.seen
    × ContinuesWithout a.worker now.seen h × (has_earlier_hit x.shape h p ≡ false))
    (sym c.requires) (f.missed c.if-not-finds_earlier_hit.true) in
    finds_nothing a now p (subst IsSitter c.seat.view_is c.seat.invariant.sitter) (holding
    (goal.at.returns-then-not-finds_earlier_hit-clause-no_earlier_hit c).In-Some) f.sees none

pub drop_piece-requires-clause-held : goal.drop_piece-requires-clause-held
drop_piece-requires-clause-held c = ap (λ (x : Sitter). held_by x.worker x.seen) c.seat-2.view_is
    ∙ held_sees c.args.seat.now c.finds_earlier_hit.new.seat c.finds_earlier_hit.ensures.sees
    ∙ holding (goal.at.drop_piece-requires-clause-held c).In-Some

pub drop_piece-requires-clause-piece : goal.drop_piece-requires-clause-piece
drop_piece-requires-clause-piece c =
    let i = c.seat.inside in
    let at : i.token.place ≡ c.self.inside.words = ap (λ (a : Sitter). a.place) c.seat.view_is
    ∙ c.requires ∙ sym c.self.view_is in
    subst (λ (p : Place). c.in-Some.piece < piece_count p.shape) at (seated_piece i.token i.worker
    i.exhausted i.row i.piece i.remembered.items c.in-Some.piece c.seat.invariant c.in-Some.is)

pub invariant_of-seat : goal.invariant_of-seat
invariant_of-seat c =
    let i = c.seat-2.inside in
    let now = c.drop_piece.new.token in
    let here = c.seat-2.invariant.piece_is
    ∙ ap (λ (x : Sitter). held_by x.worker x.seen) c.seat-2.view_is
    ∙ held_sees c.args.seat.now c.finds_earlier_hit.new.seat c.finds_earlier_hit.ensures.sees
    ∙ holding (goal.at.invariant_of-seat c).In-Some in
    seated_makes i.token now (Event.Drop i.token.worker) Done i.worker i.exhausted i.row i.piece
    None i.remembered.items c.seat-2.invariant
    (untold i.token i.worker i.exhausted i.row i.piece i.remembered.items
    c.in-Some.piece c.seat-2.invariant here) c.drop_piece.ensures
    (dropped_free i.token now Done c.drop_piece.ensures)

pub returns-clause-accepted : goal.returns-clause-accepted
returns-clause-accepted c =
    let a = c.args.seat.now in
    let b = c.finds_earlier_hit.new.seat in
    let d = c.drop_piece.new.token in
    let sees = c.finds_earlier_hit.ensures.sees in
    let own = subst (λ (x : Sitter).
    Makes x (Event.Drop x.worker) Done d) c.seat-2.view_is c.drop_piece.ensures in
    makes_after a b d (Event.Drop a.worker) Done sees
    (subst (λ w. Makes b (Event.Drop w) Done d) (ap (λ (x : Sitter). x.worker) sees.seat) own)

-- a seat that holds a piece of block 0 finds no hit, and stays
pub returns-then-not-finds_earlier_hit-clause-block_zero
    : goal.returns-then-not-finds_earlier_hit-clause-block_zero
returns-then-not-finds_earlier_hit-clause-block_zero c = λ piece holds first.
    let i = c.seat.inside in
    let same = seated_same i.token c.args.seat.now i.worker i.exhausted i.row i.piece
    i.remembered.items c.in-Some.piece piece c.seat.invariant c.seat.view_is c.in-Some.is holds in
    let none = c.finds_earlier_hit.ensures.block_zero
    (subst (λ p. block_of c.args.self.now.shape p ≡ 0) same first) in
    (refl, none.1)

pub returns-clause-block_zero : goal.returns-clause-block_zero
returns-clause-block_zero c = λ piece holds first.
    let i = c.seat.inside in
    let same = seated_same i.token c.args.seat.now i.worker i.exhausted i.row i.piece
    i.remembered.items c.in-Some.piece piece c.seat.invariant c.seat.view_is c.in-Some.is holds in
    let none = c.finds_earlier_hit.ensures.block_zero
    (subst (λ p. block_of c.args.self.now.shape p ≡ 0) same first) in
    absurd (true≢false (sym c.if-not-finds_earlier_hit.false ∙ none.0))
