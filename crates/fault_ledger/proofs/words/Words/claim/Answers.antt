use Rattle.std.proofs.Common.{arith}
use Rattle.fault_ledger.proofs.{TokenAsSeat.taken, TokenSteps.claim_allowed}
use Rattle.fault_ledger.proofs.words.Words.claim.Goals as goal

pub fetch_add-piece-requires : goal.fetch_add-piece-requires
fetch_add-piece-requires c =
    let seat = c.take_seat-seat.result in
    let t = taken seat.me c.token.view_is c.token.invariant c.requires.place c.self.view_is
    c.take_seat-seat.ensures.place.0 c.take_seat-seat.ensures.view in
    let words = c.self.invariant in (
      t.table_is,
      omega arith,
      claim_allowed t c.self.inside.table.shared.table_id.slots seat.id
          c.requires.free.0 c.requires.free.1,
    )
