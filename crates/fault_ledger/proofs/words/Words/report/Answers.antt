use Rattle.std.proofs.Common.{◌≡◌, ◌<◌, true, sym, ap, ◌∙◌, subst, arith}
use Rattle.patterns.specs.Tests.{size_of}
use Rattle.fault_ledger.specs.{History.{piece_count, block_of}, Answer.fits_size, Seats.Place}
use Rattle.fault_ledger.{specs.Words.in_field, proofs.TokenAsSeat.taken}
use Rattle.fault_ledger.proofs.TokenSteps.{report_allowed, report_done}
use Rattle.fault_ledger.proofs.words.Words.report.Goals as goal

pub fetch_add-requires : goal.fetch_add-requires
fetch_add-requires c =
    let seat = c.take_seat-seat.result in
    let t = taken seat.me c.token.view_is c.token.invariant c.requires.place c.self.view_is
    c.take_seat-seat.ensures.place.0 c.take_seat-seat.ensures.view in
    let below : c.args.piece < piece_count c.self.inside.table.shared.key = subst
    (λ (p : Place). c.args.piece < piece_count p.shape) (sym c.self.view_is) c.requires.piece in
    let fits = subst (λ (p : Place).
    fits_size (size_of p.shape.tests (block_of p.shape c.args.piece)) c.args.outcome ≡ true)
    (sym c.self.view_is) c.requires.fits in
    let words = c.self.invariant in
    let place = c.word_with.ensures in (
      t.table_is,
      omega arith,
      report_allowed t c.self.inside.table.shared.table_id.slots seat.id
          c.args.piece c.word_with.result c.in_field.result c.args.outcome c.requires.held below
          fits place (c.in_field.ensures ∙ ap (in_field c.args.piece) c.code_of.ensures),
    )

pub returns : goal.returns
returns c =
    let seat = c.take_seat-seat.result in
    let t = taken seat.me c.token.view_is c.token.invariant c.requires.place c.self.view_is
    c.take_seat-seat.ensures.place.0 c.take_seat-seat.ensures.view in
    report_done t c.self.inside.table.shared.table_id.slots c.args.piece
    c.word_with.result c.in_field.result c.fetch_add.result c.args.outcome
    c.fetch_add.new.seat.me c.into_badge.result c.requires.held (c.in_field.ensures
    ∙ ap (in_field c.args.piece) c.code_of.ensures) c.fetch_add.ensures.0 c.fetch_add.ensures.2
    c.into_badge.ensures.0 c.into_badge.ensures.2
