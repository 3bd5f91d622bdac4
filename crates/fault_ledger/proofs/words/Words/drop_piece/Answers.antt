use Rattle.std.proofs.Common.{◌≡◌, ◌<◌, true, sym, subst, arith}
use Rattle.fault_ledger.specs.{History.piece_count, Answer.has_earlier_hit, Seats.Place}
use Rattle.fault_ledger.proofs.{TokenAsSeat.taken, TokenSteps.{drop_allowed, drop_done}}
use Rattle.fault_ledger.proofs.words.Words.drop_piece.Goals as goal

pub fetch_add-requires : goal.fetch_add-requires
fetch_add-requires c =
    let seat = c.take_seat-seat.result in
    let t = taken seat.me c.token.view_is c.token.invariant c.requires.place c.self.view_is
    c.take_seat-seat.ensures.place.0 c.take_seat-seat.ensures.view in
    let below : c.args.piece < piece_count c.self.inside.table.shared.key = subst
    (λ (p : Place). c.args.piece < piece_count p.shape) (sym c.self.view_is) c.requires.piece in
    let hit = subst (λ (p : Place). has_earlier_hit p.shape c.args.token.now.seen c.args.piece
    ≡ true) (sym c.self.view_is) c.requires.hit in
    let words = c.self.invariant in
    let place = c.word_with.ensures in (
      t.table_is,
      omega arith,
      drop_allowed t c.self.inside.table.shared.table_id.slots seat.id c.args.piece
          c.word_with.result c.in_field.result c.requires.held below hit place c.in_field.ensures,
    )

pub returns : goal.returns
returns c =
    let seat = c.take_seat-seat.result in
    let t = taken seat.me c.token.view_is c.token.invariant c.requires.place c.self.view_is
    c.take_seat-seat.ensures.place.0 c.take_seat-seat.ensures.view in
    drop_done t c.self.inside.table.shared.table_id.slots c.word_with.result c.in_field.result
    c.fetch_add.result c.fetch_add.new.seat.me c.into_badge.result c.fetch_add.ensures.0
    c.fetch_add.ensures.2 c.into_badge.ensures.0 c.into_badge.ensures.2
