use Rattle.std.proofs.Common.{◌≡◌, ℕ, ◌<◌, ◌%◌, ◌/◌, Some, None, false, ap, sym, ◌∙◌, subst}
use Rattle.patterns.specs.Tests.{size_of}
use Rattle.fault_ledger.specs.declared.{Shape.Shape, Event.Event, Reply.TheVariants.Done}
use Rattle.fault_ledger.specs.History.{block_count, block_of, held_by, piece_count}
use Rattle.fault_ledger.specs.{Answer.fits_size, Seats.{IsSitter, Place, Sitter, class_and_block}}
use Rattle.fault_ledger.proofs.{PieceNumbers.{block_of-below, some_class}, SeatSteps.untold}
use Rattle.fault_ledger.proofs.SeatSteps.{reported_badly, reported_free, seated_makes, seated_piece}
use Rattle.fault_ledger.proofs.shared.SharedLedger.report.Goals.{In-Some}
use Rattle.fault_ledger.proofs.shared.SharedLedger.report.Goals.{After-class_and_block-class}
use Rattle.fault_ledger.proofs.shared.SharedLedger.report.Goals as goal

-- the piece is one of the ledger's
within : (c : In-Some) → c.in-Some.piece < piece_count c.args.self.now.shape
within c =
    let i = c.seat.inside in
    let at : i.token.place ≡ c.args.self.now = ap (λ (a : Sitter). a.place) c.seat.view_is
    ∙ c.requires in
    subst (λ (p : Place). c.in-Some.piece < piece_count p.shape) at (seated_piece i.token i.worker
    i.exhausted i.row i.piece i.remembered.items c.in-Some.piece c.seat.invariant c.in-Some.is)

row_is : (c : In-Some) → c.seat.inside.row ≡ c.args.self.now.shape.classes
row_is c = c.seat.invariant.classes_is ∙ ap (λ (x : Sitter). x.place.shape.classes) c.seat.view_is
    ∙ ap (λ (x : Place). x.shape.classes) c.requires

pub class_and_block-class-requires : goal.class_and_block-class-requires
class_and_block-class-requires c =
    let at = (goal.at.class_and_block-class-requires c).In-Some in
    subst (λ n. 0 < n) (sym (row_is at)) (some_class c.args.self.now.shape c.in-Some.piece
    (within at))

-- the class and the block of the piece
place_is : (c : After-class_and_block-class) → c.seat.inside.row ≡ c.args.self.now.shape.classes
    → c.class_and_block-class.result ≡ class_and_block c.args.self.now.shape c.in-Some.piece
place_is c row = c.class_and_block-class.ensures
    ∙ ap (λ n. (c.in-Some.piece % n, c.in-Some.piece / n)) row

pub takes-requires : goal.takes-requires
takes-requires c =
    let at = (goal.at.takes-requires c).In-Some in
    let s = c.args.self.now.shape in
    let is = place_is (goal.at.takes-requires c).After-class_and_block-class (row_is at) in
    let same : c.self.inside.shape ≡ s = sym c.self.invariant
    ∙ ap (λ (x : Place). x.shape) c.self.view_is in
    subst (λ (x : Shape). c.class_and_block-class.result.1 < block_count x) (sym same)
    (subst (λ (x : ℕ × ℕ). x.1 < block_count s) (sym is)
    (block_of-below s c.in-Some.piece (within at)))

pub returns-then-not-takes-clause-refused : goal.returns-then-not-takes-clause-refused
returns-then-not-takes-clause-refused c =
    let at = (goal.at.returns-then-not-takes-clause-refused c).In-Some in
    let a = c.args.seat.now in
    let p = c.in-Some.piece in
    let o = c.args.outcome in
    let is = place_is (goal.at.returns-then-not-takes-clause-refused c).After-class_and_block-class
    (row_is at) in
    let same : c.self.inside.shape ≡ c.args.self.now.shape = sym c.self.invariant
    ∙ ap (λ (x : Place). x.shape) c.self.view_is in
    let bad = subst (λ (x : Shape). fits_size (size_of x.tests c.class_and_block-class.result.1) o
    ≡ false) same (sym c.takes.ensures ∙ c.if-not-takes.true) in
    let bad_at = subst (λ (x : ℕ × ℕ). fits_size (size_of c.args.self.now.shape.tests x.1) o
    ≡ false) is bad in
    let holding : held_by a.worker a.seen ≡ Some p =
    ap (λ (x : Sitter). held_by x.worker x.seen) (sym c.seat.view_is)
    ∙ sym c.seat.invariant.piece_is ∙ c.in-Some.is in
    reported_badly a p o (subst IsSitter c.seat.view_is c.seat.invariant.sitter) holding
    (subst (λ (x : Place). fits_size (size_of x.shape.tests (block_of x.shape p)) o ≡ false)
    (sym c.requires) bad_at)

pub report-requires-clause-piece : goal.report-requires-clause-piece
report-requires-clause-piece c =
    let i = c.seat.inside in
    let at : i.token.place ≡ c.self.inside.words = ap (λ (a : Sitter). a.place) c.seat.view_is
    ∙ c.requires ∙ sym c.self.view_is in
    subst (λ (p : Place). c.in-Some.piece < piece_count p.shape) at (seated_piece i.token i.worker
    i.exhausted i.row i.piece i.remembered.items c.in-Some.piece c.seat.invariant c.in-Some.is)

pub invariant_of-seat : goal.invariant_of-seat
invariant_of-seat c =
    let i = c.seat.inside in
    let now = c.report.new.token in
    let e = Event.Report i.token.worker c.args.outcome in
    seated_makes i.token now e Done i.worker i.exhausted i.row i.piece None i.remembered.items
    c.seat.invariant
    (untold i.token i.worker i.exhausted i.row i.piece i.remembered.items c.in-Some.piece
    c.seat.invariant c.in-Some.is) c.report.ensures
    (reported_free i.token now c.args.outcome Done c.report.ensures)
