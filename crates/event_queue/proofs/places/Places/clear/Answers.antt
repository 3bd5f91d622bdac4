use Rattle.std.proofs.Common.{◌≡◌, ◌≢◌, ◌<◌, ◌≤◌, ◌/◌, ◌*◌, ◌∙◌, ℕ, arith, length, sym, subst, refl}
use Rattle.std.specs.Prelude.{slice_index_or, slice_set}
use Rattle.std.proofs.lemmas.List.{get_or_read, length-set}
use Rattle.event_queue.{specs.Places.flag, proofs.Zeros.{one_more, zeros_le}}
use Rattle.event_queue.proofs.PlacesTaken.{places_none, word_low, word_within, low_less, all_zero}
use Rattle.event_queue.proofs.places.Places.clear.Goals.{In-Some}
use Rattle.event_queue.proofs.places.Places.clear.Goals as goal

pub loop-word-init : goal.loop-word-init
loop-word-init c = record {
  places = c.self.invariant;
  room = refl;
  low = word_low c.self.inside.words.items c.args.from c.self.invariant.fits
      (subst (λ l. (p : ℕ) → slice_index_or l p 0 ≢ 0 → c.args.from ≤ p) (sym c.self.view_is)
      c.requires.low);
}

some : (c : In-Some) → slice_index_or c.loop-word.self-inside.words.items c.in-Some.word 0 ≢ 0
some c = c.loop-word.invariant.places.marks c.in-Some.word
    (subst (λ l. flag l c.in-Some.word ≡ 1) c.as_slice.ensures.value c.in-Some.ensures.some)

pub loop-word-smaller : goal.loop-word-smaller
loop-word-smaller c =
    let words = c.loop-word.self-inside.words.items in
    let ne = some (goal.at.loop-word-smaller c).In-Some in
    let lt = word_within words c.in-Some.word ne in
    let more = one_more words c.in-Some.word lt ne in
    let long = length-set words c.in-Some.word 0 in
    let le = zeros_le (slice_set words c.in-Some.word 0) in
    omega (arith, more, long, le)

pub loop-word-preserved : goal.loop-word-preserved
loop-word-preserved c =
    let words = c.loop-word.self-inside.words.items in
    let summary = c.loop-word.self-inside.summary.items in
    let ne = some (goal.at.loop-word-preserved c).In-Some in
    let lt = word_within words c.in-Some.word ne in
    let in_summary : c.in-Some.word / 64 < length summary =
    omega (arith, lt, c.loop-word.invariant.places.room) in
    record {
      places = places_none words summary c.loop-word.invariant.places c.in-Some.word 0 lt
          (omega arith) c.index-marks.result.now in_summary
          (sym (get_or_read summary (c.in-Some.word / 64) c.index-marks.result.now in_summary
          c.index-marks.ensures 0)) refl;
      room = length-set words c.in-Some.word 0 ∙ c.loop-word.invariant.room;
      low = low_less words (c.args.from / 64) c.in-Some.word c.loop-word.invariant.low;
    }

pub returns-clause-clear : goal.returns-clause-clear
returns-clause-clear c = all_zero c.loop-word.self-inside.words.items
    c.loop-word.self-inside.summary.items (c.args.from / 4096) c.loop-word.invariant.places
    (λ w. let at = c.loop-word.invariant.low w in λ ne. omega (arith, at ne))
    (subst (λ l. (w : ℕ) → 64 * (c.args.from / 4096) ≤ w → flag l w ≡ 0) c.as_slice.ensures.value
    c.in_default.ensures.none)
