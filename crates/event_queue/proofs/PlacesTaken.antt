-- A set of places: one place more, one less, and none.
use Rattle.std.proofs.Common.{◌≡◌, ◌≢◌, ◌<◌, ◌≤◌, ◌+◌, ◌*◌, ◌/◌, ◌%◌, ◌^◌, ℕ, sym, ◌∙◌, ap, subst}
use Rattle.std.proofs.{Common.{List, length, arith, set, inl, inr, ◌⊎◌}, lemmas.Bool.cases_eq}
use Rattle.std.{specs.Prelude.{All, bit_and, slice_index_or}, proofs.lemmas.List.get_or_past}
use Rattle.std.specs.Int.{bit_at, bit_not, trailing_zeros, w64}
use Rattle.std.proofs.lemmas.List.{length-set, get_or-set_same, get_or-set_other, get_or_default}
use Rattle.std.proofs.lemmas.Nat.{and_le_l, or_lt, Bits.{bit_at-lt, bit_at-trailing_zeros}}
use Rattle.event_queue.{specs.Places.{ArePlaces, flag, flags}, proofs.Zeros.index_zero}
use Rattle.event_queue.proofs.Flags.{flag_is, flag_word, no_flags, split, word_flag, set_same}
use Rattle.event_queue.proofs.Flags.{set_other, with_bit, first_flag, first_flag_least, clear_same}
use Rattle.event_queue.proofs.Flags.{clear_other, clear_flags, without_bit}

module _ (words summary : List ℕ) (all : ArePlaces words summary) where
  -- ---- one more
  module _ (place bits marks : ℕ) (in_words : place / 64 < length words)
      (in_summary : place / 64 / 64 < length summary)
      (is : slice_index_or words (place / 64) 0 ≡ bits)
      (is_marks : slice_index_or summary (place / 64 / 64) 0 ≡ marks) where
    abbrev new_words : List ℕ
    new_words = set words (place / 64) (with_bit words place bits in_words is)

    abbrev new_summary : List ℕ
    new_summary = set summary (place / 64 / 64)
        (with_bit summary (place / 64) marks in_summary is_marks)

    pub places_more : ArePlaces new_words new_summary
    places_more = record {
      room = let a = length-set words (place / 64) (with_bit words place bits in_words is) in
          let b = length-set summary (place / 64 / 64)
          (with_bit summary (place / 64) marks in_summary is_marks) in
          omega (arith, a, b, all.room);
      few = let a = length-set words (place / 64) (with_bit words place bits in_words is) in
          omega (arith, a, all.few);
      short = let b = length-set summary (place / 64 / 64)
          (with_bit summary (place / 64) marks in_summary is_marks) in omega (arith, b, all.short);
      fits = λ w. fits w (cases_eq w (place / 64));
      marked = λ w some. marked w some (cases_eq w (place / 64));
      marks = λ w on. marks_of w on (cases_eq w (place / 64));
    }
      where
        fits : (w : ℕ) → (w ≡ place / 64) ⊎ (w ≢ place / 64) → slice_index_or new_words w 0 < 2 ^ 64
        fits w (inl same) =
            let here = ap (λ x. slice_index_or new_words x 0) same
            ∙ get_or-set_same words (place / 64) (with_bit words place bits in_words is) 0
            in_words in
            let low = all.fits (place / 64) in
            let lt = or_lt 64 bits (1 * 2 ^ (place % 64) % 2 ^ 64) (omega (arith, low, is))
            (omega arith) in
            omega (arith, here, lt)
        fits w (inr other) =
            let here = get_or-set_other words (place / 64) w
            (with_bit words place bits in_words is) 0 other in
            let low = all.fits w in omega (arith, here, low)

        marked : (w : ℕ) → slice_index_or new_words w 0 ≢ 0
            → (w ≡ place / 64) ⊎ (w ≢ place / 64) → flag new_summary w ≡ 1
        marked w some (inl same) = ap (flag new_summary) same
            ∙ set_same summary (place / 64) marks in_summary is_marks
        marked w some (inr other) = set_other summary (place / 64) marks in_summary is_marks w other
            ∙ all.marked w (λ e. some (get_or-set_other words (place / 64) w
            (with_bit words place bits in_words is) 0 other ∙ e))

        marks_of : (w : ℕ) → flag new_summary w ≡ 1 → (w ≡ place / 64) ⊎ (w ≢ place / 64)
            → slice_index_or new_words w 0 ≢ 0
        marks_of w on (inl same) = subst (λ x. slice_index_or new_words x 0 ≢ 0) (sym same)
            (flag_word new_words place (λ e. let h = set_same words place bits in_words is in
            omega (arith, e, h)))
        marks_of w on (inr other) = λ none.
            all.marks w (sym (set_other summary (place / 64) marks in_summary is_marks w other)
            ∙ on) (sym (get_or-set_other words (place / 64) w
            (with_bit words place bits in_words is) 0 other) ∙ none)

  -- ---- a word has less
  module _ (at left : ℕ) (lt : at < length words) (low : left < 2 ^ 64) where
    fits_left : (w : ℕ) → (w ≡ at) ⊎ (w ≢ at) → slice_index_or (set words at left) w 0 < 2 ^ 64
    fits_left w (inl same) =
        let here = ap (λ x. slice_index_or (set words at left) x 0) same
        ∙ get_or-set_same words at left 0 lt in omega (arith, here, low)
    fits_left w (inr other) = let here = get_or-set_other words at w left 0 other in
        let fits = all.fits w in omega (arith, here, fits)

    -- and nothing more
    module _ (marks : ℕ) (in_summary : at / 64 < length summary)
        (is_marks : slice_index_or summary (at / 64) 0 ≡ marks) where
      abbrev less_summary : List ℕ
      less_summary = set summary (at / 64) (without_bit summary at marks in_summary is_marks)

      pub places_none : left ≡ 0 → ArePlaces (set words at left) less_summary
      places_none empty = record {
        room = let a = length-set words at left in
            let b = length-set summary (at / 64)
            (without_bit summary at marks in_summary is_marks) in
            omega (arith, a, b, all.room);
        few = let a = length-set words at left in omega (arith, a, all.few);
        short = let b = length-set summary (at / 64)
            (without_bit summary at marks in_summary is_marks) in omega (arith, b, all.short);
        fits = λ w. fits_left w (cases_eq w at);
        marked = λ w ne. marked w ne (cases_eq w at);
        marks = λ w on. marks_of w on (cases_eq w at);
      }
        where
          marked : (w : ℕ) → slice_index_or (set words at left) w 0 ≢ 0
              → (w ≡ at) ⊎ (w ≢ at) → flag less_summary w ≡ 1
          marked w ne (inl same) = absurd (ne (ap (λ x. slice_index_or (set words at left) x 0) same
              ∙ (get_or-set_same words at left 0 lt ∙ empty)))
          marked w ne (inr other) = clear_other summary at marks in_summary is_marks w other
              ∙ all.marked w (λ e. ne (get_or-set_other words at w left 0 other ∙ e))

          marks_of : (w : ℕ) → flag less_summary w ≡ 1 → (w ≡ at) ⊎ (w ≢ at)
              → slice_index_or (set words at left) w 0 ≢ 0
          marks_of w on (inl same) =
              let off = clear_same summary at marks in_summary is_marks in
              let here = ap (flag less_summary) same in
              absurd (omega (arith, on, off, here))
          marks_of w on (inr other) = λ none. all.marks w
              (sym (clear_other summary at marks in_summary is_marks w other) ∙ on)
              (sym (get_or-set_other words at w left 0 other) ∙ none)

-- ---- the least place
module _ (words summary : List ℕ) (all : ArePlaces words summary) (at bits : ℕ)
    (is : slice_index_or words at 0 ≡ bits) (some : slice_index_or words at 0 ≢ 0)
    (fits : bits < 2 ^ 64) where
  abbrev pub bit : ℕ
  bit = trailing_zeros w64 bits

  abbrev pub place : ℕ
  place = at * 64 + bit

  found : (bit < 64) × (bit_at bits bit ≡ 1) × ((i : ℕ) → i < bit → bit_at bits i ≡ 0)
  found = bit_at-trailing_zeros w64 bits (let e = is in omega (arith, some, e)) fits

  pub place_word : place / 64 ≡ at
  place_word = let b = found.0 in omega (arith, b)

  pub place_bit : place % 64 ≡ bit
  place_bit = let b = found.0 in omega (arith, b)

  pub in_place : slice_index_or words (place / 64) 0 ≡ bits
  in_place = ap (λ i. slice_index_or words i 0) place_word ∙ is

  -- it is set
  pub place_set : slice_index_or (flags words) place 0 ≡ 1
  place_set = subst (λ x. slice_index_or (flags words) (at * 64 + trailing_zeros w64 x) 0 ≡ 1) is
      (flag_is words (at * 64 + trailing_zeros w64 (slice_index_or words at 0))
      ∙ first_flag words at some (let e = is in omega (arith, e, fits)))

  -- and no other is before it
  pub place_least : ((w : ℕ) → slice_index_or words w 0 ≢ 0 → at ≤ w)
      → (other : ℕ) → slice_index_or (flags words) other 0 ≢ 0 → place ≤ other
  place_least least other on = go (split (flag words other) 1)
    where
      set_one : flag words other ≢ 0
      set_one e = on (flag_is words other ∙ e)

      go : (flag words other < 1) ⊎ (1 ≤ flag words other) → place ≤ other
      go (inl lt) = absurd (set_one (omega (arith, lt)))
      go (inr le) = subst (λ x. at * 64 + trailing_zeros w64 x ≤ other) is
          (first_flag_least words at at some (let e = is in omega (arith, e, fits))
          (λ i from lt. absurd (omega (arith, from, lt))) other
          (let here = least (other / 64) (flag_word words other set_one) in omega (arith, here))
          (let two = bit_at-lt (slice_index_or words (other / 64) 0) (other % 64) in
          omega (arith, le, two)))

  -- its word without it
  abbrev pub rest : ℕ
  rest = bit_and bits (bit_not w64 (1 * 2 ^ bit % 2 ^ 64))

  pub rest_fits : rest < 2 ^ 64
  rest_fits = let le = and_le_l bits (bit_not w64 (1 * 2 ^ bit % 2 ^ 64)) in omega (arith, le, fits)

  pub without_place : at < length words → flags (set words at rest) ≡ set (flags words) place 0
  without_place lt =
      subst (λ b. flags (set words at (bit_and bits (bit_not w64 (1 * 2 ^ b % 2 ^ 64))))
      ≡ set (flags words) place 0) place_bit
      (subst (λ i. flags (set words i (bit_and bits (bit_not w64 (1 * 2 ^ (place % 64) % 2 ^ 64))))
      ≡ set (flags words) place 0) place_word
      (clear_flags words place bits (let h = place_word in omega (arith, h, lt)) in_place))

-- ---- none
-- a word has no place before one below which none is set
pub word_low : (words : List ℕ) (from : ℕ) → ((w : ℕ) → slice_index_or words w 0 < 2 ^ 64)
    → ((p : ℕ) → slice_index_or (flags words) p 0 ≢ 0 → from ≤ p)
    → (w : ℕ) → slice_index_or words w 0 ≢ 0 → from / 64 ≤ w
word_low words from fits low w some =
    let p = word_flag words w some (fits w) in
    let le = low p.0 (λ e. let h = flag_is words p.0 in let on = p.2 in omega (arith, e, h, on)) in
    let at = p.1 in
    omega (arith, le, at)

pub none_set : (words : List ℕ) → All (λ word. word ≡ 0) words → All (λ x. x ≡ 0) (flags words)
none_set words none k d lt = get_or_default (flags words) k d 0 lt
    ∙ no_flags words (λ w. index_zero words w none) k

pub word_within : (words : List ℕ) (w : ℕ) → slice_index_or words w 0 ≢ 0 → w < length words
word_within words w some = go (split w (length words))
  where
    go : (w < length words) ⊎ (length words ≤ w) → w < length words
    go (inl lt) = lt
    go (inr le) = absurd (some (get_or_past words w 0 le))

-- zeros stay
pub low_less : (words : List ℕ) (from at : ℕ) → ((w : ℕ) → slice_index_or words w 0 ≢ 0 → from ≤ w)
    → (w : ℕ) → slice_index_or (set words at 0) w 0 ≢ 0 → from ≤ w
low_less words from at low w some = go (cases_eq w at) (split at (length words))
  where
    go : (w ≡ at) ⊎ (w ≢ at) → (at < length words) ⊎ (length words ≤ at) → from ≤ w
    go (inr other) h = low w (λ e. some (get_or-set_other words at w 0 0 other ∙ e))
    go (inl same) (inl lt) = absurd (some (ap (λ x. slice_index_or (set words at 0) x 0) same
        ∙ get_or-set_same words at 0 0 lt))
    go (inl same) (inr le) = absurd (some (get_or_past (set words at 0) w 0
        (let long = length-set words at 0 in omega (arith, long, le, same))))

-- if no mark is left, nothing is set
pub all_zero : (words summary : List ℕ) (first : ℕ) → ArePlaces words summary
    → ((w : ℕ) → slice_index_or words w 0 ≢ 0 → 64 * first ≤ w)
    → ((w : ℕ) → 64 * first ≤ w → flag summary w ≡ 0) → All (λ x. x ≡ 0) (flags words)
all_zero words summary first all low none k d lt = get_or_default (flags words) k d 0 lt
    ∙ no_flags words (λ w. zero_at w (cases_eq (slice_index_or words w 0) 0)) k
  where
    zero_at : (w : ℕ) → (slice_index_or words w 0 ≡ 0) ⊎ (slice_index_or words w 0 ≢ 0)
        → slice_index_or words w 0 ≡ 0
    zero_at w (inl e) = e
    zero_at w (inr ne) = let off = none w (low w ne) in let on = all.marked w ne in
        absurd (omega (arith, off, on))
