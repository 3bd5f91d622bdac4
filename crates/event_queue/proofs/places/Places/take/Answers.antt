use Rattle.std.proofs.Common.{◌≡◌, ◌≢◌, ◌<◌, ◌≤◌, ◌/◌, ◌*◌, ◌+◌, ◌∙◌, ℕ, ap, arith, length, sym}
use Rattle.std.{proofs.Common.{subst, refl}, specs.Prelude.{All, slice_index_or, slice_set}}
use Rattle.std.{specs.Int.{trailing_zeros, w64}, proofs.lemmas.List.get_or_read}
use Rattle.event_queue.{specs.Places.flags, proofs.Flags.flags_count}
use Rattle.event_queue.proofs.PlacesTaken.{places_none, word_low, place_set, place_least, rest_fits}
use Rattle.event_queue.proofs.PlacesTaken.{without_place, none_set}
use Rattle.event_queue.proofs.places.Places.take.Goals.{After-index_mut-in-Some, Then-rest-ne0}
use Rattle.event_queue.proofs.places.Places.take.Goals.{In-Some}
use Rattle.event_queue.proofs.places.Places.take.Goals as goal

pub least_word-requires-clause-within : goal.least_word-requires-clause-within
least_word-requires-clause-within c =
    let words = c.self.inside.words.items in
    let lt : c.args.from < length (flags words) =
    subst (λ w. c.args.from < length w) (sym c.self.view_is) c.requires.within in
    let count = flags_count words in
    let same = ap length c.as_slice.ensures.value in
    omega (arith, lt, count, same)

pub least_word-requires-clause-low : goal.least_word-requires-clause-low
least_word-requires-clause-low c =
    let words = c.self.inside.words.items in
    subst (λ l. (w : ℕ) → slice_index_or l w 0 ≢ 0 → c.args.from / 64 ≤ w)
    (sym c.as_slice.ensures.value) (word_low words c.args.from c.self.invariant.fits
    (subst (λ l. (p : ℕ) → slice_index_or l p 0 ≢ 0 → c.args.from ≤ p) (sym c.self.view_is)
    c.requires.low))

within : (c : In-Some) → c.in-Some.word < length c.self.inside.words.items
within c = let lt = c.in-Some.ensures.some.0 in let same = ap length c.as_slice.ensures.value in
    omega (arith, lt, same)

some : (c : In-Some) → slice_index_or c.self.inside.words.items c.in-Some.word 0 ≢ 0
some c = subst (λ l. slice_index_or l c.in-Some.word 0 ≢ 0) c.as_slice.ensures.value
    c.in-Some.ensures.some.1

least : (c : In-Some) → (w : ℕ) → slice_index_or c.self.inside.words.items w 0 ≢ 0
    → c.in-Some.word ≤ w
least c = subst (λ l. (w : ℕ) → slice_index_or l w 0 ≢ 0 → c.in-Some.word ≤ w)
    c.as_slice.ensures.value c.in-Some.ensures.least

pub returns-then-rest-ne0-clause-some : goal.returns-then-rest-ne0-clause-some
returns-then-rest-ne0-clause-some c =
    let at = (goal.at.returns-then-rest-ne0-clause-some c).In-Some in
    let words = c.self.inside.words.items in
    let bits = c.index-bits.result.now in
    let is = sym (get_or_read words c.in-Some.word bits (within at) c.index-bits.ensures 0) in
    let place = c.in-Some.word * 64 + trailing_zeros w64 bits in (
      subst (λ l. slice_index_or l place 0 ≡ 1) c.self.view_is
          (place_set words c.self.inside.summary.items c.self.invariant c.in-Some.word bits is
          (some at) (omega arith)),
      without_place words c.self.inside.summary.items c.self.invariant c.in-Some.word bits is
          (some at) (omega arith) (within at) ∙ ap (λ l. slice_set l place 0) c.self.view_is,
    )

pub returns-then-rest-ne0-clause-least : goal.returns-then-rest-ne0-clause-least
returns-then-rest-ne0-clause-least c =
    let at = (goal.at.returns-then-rest-ne0-clause-least c).In-Some in
    let words = c.self.inside.words.items in
    let bits = c.index-bits.result.now in
    let is = sym (get_or_read words c.in-Some.word bits (within at) c.index-bits.ensures 0) in
    let place = c.in-Some.word * 64 + trailing_zeros w64 bits in
    subst (λ l. (other : ℕ) → slice_index_or l other 0 ≢ 0 → place ≤ other) c.self.view_is
    (place_least words c.self.inside.summary.items c.self.invariant c.in-Some.word bits is
    (some at) (omega arith) (least at))

pub returns-else-rest-ne0-clause-some : goal.returns-else-rest-ne0-clause-some
returns-else-rest-ne0-clause-some c =
    let at = (goal.at.returns-else-rest-ne0-clause-some c).In-Some in
    let words = c.self.inside.words.items in
    let bits = c.index-bits.result.now in
    let is = sym (get_or_read words c.in-Some.word bits (within at) c.index-bits.ensures 0) in
    let place = c.in-Some.word * 64 + trailing_zeros w64 bits in (
      subst (λ l. slice_index_or l place 0 ≡ 1) c.self.view_is
          (place_set words c.self.inside.summary.items c.self.invariant c.in-Some.word bits is
          (some at) (omega arith)),
      without_place words c.self.inside.summary.items c.self.invariant c.in-Some.word bits is
          (some at) (omega arith) (within at) ∙ ap (λ l. slice_set l place 0) c.self.view_is,
    )

pub returns-else-rest-ne0-clause-least : goal.returns-else-rest-ne0-clause-least
returns-else-rest-ne0-clause-least c =
    let at = (goal.at.returns-else-rest-ne0-clause-least c).In-Some in
    let words = c.self.inside.words.items in
    let bits = c.index-bits.result.now in
    let is = sym (get_or_read words c.in-Some.word bits (within at) c.index-bits.ensures 0) in
    let place = c.in-Some.word * 64 + trailing_zeros w64 bits in
    subst (λ l. (other : ℕ) → slice_index_or l other 0 ≢ 0 → place ≤ other) c.self.view_is
    (place_least words c.self.inside.summary.items c.self.invariant c.in-Some.word bits is
    (some at) (omega arith) (least at))

pub returns-in-None-clause-none : goal.returns-in-None-clause-none
returns-in-None-clause-none c = (
  refl,
  subst (All (λ x. x ≡ 0)) c.self.view_is
      (none_set c.self.inside.words.items (subst (All (λ x. x ≡ 0)) c.as_slice.ensures.value
      c.in-None.ensures.none)),
)

pub invariant_of-self-in-Some : goal.invariant_of-self-in-Some
invariant_of-self-in-Some c =
    let at = (goal.at.invariant_of-self-in-Some c).In-Some in
    let words = c.self.inside.words.items in
    let summary = c.self.inside.summary.items in
    let bits = c.index-bits.result.now in
    let lt = within at in
    let is = sym (get_or_read words c.in-Some.word bits lt c.index-bits.ensures 0) in
    let in_summary : c.in-Some.word / 64 < length summary =
    omega (arith, lt, c.self.invariant.room) in
    places_none words summary c.self.invariant c.in-Some.word _ lt
    (rest_fits words summary c.self.invariant c.in-Some.word bits is (some at) (omega arith))
    c.index-marks.result.now in_summary
    (sym (get_or_read summary (c.in-Some.word / 64) c.index-marks.result.now in_summary
    c.index-marks.ensures 0)) (omega (arith, c.if-rest-ne0.false))
