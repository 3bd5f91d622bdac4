use Rattle.std.proofs.Common.{◌<◌, ◌/◌, ◌∙◌, ap, arith, length, sym, subst}
use Rattle.std.{specs.Prelude.slice_set, proofs.lemmas.List.get_or_read}
use Rattle.event_queue.{specs.Places.flags, proofs.Flags.{flags_count, set_flags}}
use Rattle.event_queue.proofs.PlacesTaken.{places_more}
use Rattle.event_queue.proofs.places.Places.add.Goals as goal

pub index-bits-requires : goal.index-bits-requires
index-bits-requires c =
    let words = c.self.inside.words.items in
    let lt : c.args.place < length (flags words) =
    subst (λ w. c.args.place < length w) (sym c.self.view_is) c.requires in
    let count = flags_count words in
    omega (arith, lt, count)

pub index_mut-requires : goal.index_mut-requires
index_mut-requires c =
    let words = c.self.inside.words.items in
    let lt : c.args.place < length (flags words) =
    subst (λ w. c.args.place < length w) (sym c.self.view_is) c.requires in
    let count = flags_count words in
    omega (arith, lt, count)

pub index-marks-requires : goal.index-marks-requires
index-marks-requires c =
    let words = c.self.inside.words.items in
    let lt : c.args.place < length (flags words) =
    subst (λ w. c.args.place < length w) (sym c.self.view_is) c.requires in
    let count = flags_count words in
    omega (arith, lt, count, c.self.invariant.room)

pub index_mut-requires-2 : goal.index_mut-requires-2
index_mut-requires-2 c =
    let words = c.self.inside.words.items in
    let lt : c.args.place < length (flags words) =
    subst (λ w. c.args.place < length w) (sym c.self.view_is) c.requires in
    let count = flags_count words in
    omega (arith, lt, count, c.self.invariant.room)

pub invariant_of-self : goal.invariant_of-self
invariant_of-self c =
    let words = c.self.inside.words.items in
    let summary = c.self.inside.summary.items in
    let lt : c.args.place < length (flags words) =
    subst (λ w. c.args.place < length w) (sym c.self.view_is) c.requires in
    let count = flags_count words in
    let in_words : c.args.place / 64 < length words = omega (arith, lt, count) in
    let in_summary : c.args.place / 64 / 64 < length summary = omega (
      arith,
      lt,
      count,
      c.self.invariant.room,
    ) in
    places_more words summary c.self.invariant c.args.place c.index-bits.result.now
    c.index-marks.result.now in_words in_summary
    (sym (get_or_read words (c.args.place / 64) c.index-bits.result.now in_words
    c.index-bits.ensures 0))
    (sym (get_or_read summary (c.args.place / 64 / 64) c.index-marks.result.now in_summary
    c.index-marks.ensures 0))

pub returns : goal.returns
returns c =
    let words = c.self.inside.words.items in
    let lt : c.args.place < length (flags words) =
    subst (λ w. c.args.place < length w) (sym c.self.view_is) c.requires in
    let count = flags_count words in
    let in_words : c.args.place / 64 < length words = omega (arith, lt, count) in
    set_flags words c.args.place c.index-bits.result.now in_words
    (sym (get_or_read words (c.args.place / 64) c.index-bits.result.now in_words
    c.index-bits.ensures 0)) ∙ ap (λ w. slice_set w c.args.place 1) c.self.view_is
