use Rattle.std.proofs.Common.{◌<◌, sym, subst, rules}
use Rattle.fault_ledger.proofs.{PieceNumbers.some_class, SeatSteps.seated_piece}
use Rattle.fault_ledger.proofs.shared.Seat.held.Goals as goal

pub class_and_block-place-requires : goal.class_and_block-place-requires
class_and_block-place-requires c =
    let i = c.self.inside in
    let a = seated_piece i.token i.worker i.exhausted i.row i.piece i.remembered.items
    c.in_ok-piece.piece c.self.invariant c.in_ok-piece.was in
    subst (λ n. 0 < n) (sym c.self.invariant.classes_is)
    (some_class i.token.place.shape c.in_ok-piece.piece a)

pub returns-clause-held : goal.returns-clause-held
returns-clause-held c = search rules
