use Rattle.std.proofs.Common.{◌<◌, ◌∙◌, sym, ap, subst, arith}
use Rattle.fault_ledger.specs.{History.piece_count, Seats.Place, Words.state_at}
use Rattle.fault_ledger.proofs.{TokenAsSeat.taken, TokenSteps.{look_allowed, look_done}}
use Rattle.fault_ledger.proofs.words.Words.look.Goals as goal

pub load-word-requires : goal.load-word-requires
load-word-requires c =
    let seat = c.take_seat-seat.result in
    let t = taken seat.me c.token.view_is c.token.invariant c.requires.place c.self.view_is
    c.take_seat-seat.ensures.place.0 c.take_seat-seat.ensures.view in
    let below : c.args.piece < piece_count c.self.inside.table.shared.key = subst
    (λ (p : Place). c.args.piece < piece_count p.shape) (sym c.self.view_is) c.requires.piece in
    let words = c.self.invariant in
    let place = c.word_with.ensures in (
      t.table_is,
      omega arith,
      look_allowed t c.self.inside.table.shared.table_id.slots seat.id c.word_with.result,
    )

pub returns-clause-state : goal.returns-clause-state
returns-clause-state c =
    let seat = c.take_seat-seat.result in
    let t = taken seat.me c.token.view_is c.token.invariant c.requires.place c.self.view_is
    c.take_seat-seat.ensures.place.0 c.take_seat-seat.ensures.view in
    let below = subst (λ (p : Place). c.args.piece < piece_count p.shape)
    (sym c.self.view_is) c.requires.piece in
    c.state_at.ensures ∙ ap state_at c.field_of.ensures
    ∙ look_done t c.self.inside.table.shared.table_id.slots c.args.piece c.word_with.result
    c.load-word.result c.load-word.new.seat.me c.into_badge.result c.word_with.ensures
    c.load-word.ensures.0 c.load-word.ensures.2 c.into_badge.ensures.0 c.into_badge.ensures.2 below
