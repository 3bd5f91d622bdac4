-- Flags: the bit of each place in its word.
use Rattle.std.proofs.Common.{◌≡◌, ◌≢◌, ◌<◌, ◌≤◌, ◌+◌, ◌*◌, ◌/◌, ◌%◌, ◌^◌, ℕ, refl, sym, ◌∙◌, ap}
use Rattle.std.proofs.Common.{List, length, arith, set, inl, inr, ◌⊎◌, Bool, true, false}
use Rattle.std.specs.Prelude.{slice_index_or, bit_and, bit_or, nat_lt}
use Rattle.std.specs.Int.{bit_at, bit_not, w64, trailing_zeros}
use Rattle.std.proofs.lemmas.{Bool.{cases_eq, ltb-true, ltb-false}, Grind.same_number_lists}
use Rattle.std.proofs.lemmas.List.{length-set, get_or-set_same, get_or-set_other, get_or_past}
use Rattle.std.proofs.lemmas.List.FromFn.{get_or-map-range_with_len, length-map-range_with_len}
use Rattle.std.proofs.lemmas.Nat.Bits.{bit_at-zero, bit_at_set_same, bit_at_set_other}
use Rattle.std.proofs.lemmas.Nat.Bits.{bit_at_clear_same, bit_at_clear_other, bit_at-trailing_zeros}
use Rattle.event_queue.specs.Places.{flag, flags}

pub flags_count : (words : List ℕ) → length (flags words) ≡ 64 * length words
flags_count words = length-map-range_with_len (flag words) 0 (64 * length words)

pub split : (a b : ℕ) → (a < b) ⊎ (b ≤ a)
split a b = go (nat_lt a b) refl
  where
    go : (x : Bool) → nat_lt a b ≡ x → (a < b) ⊎ (b ≤ a)
    go true e = inl (ltb-true a b e)
    go false e = inr (ltb-false a b e)

-- past the last word there is none
pub flag_past : (words : List ℕ) (p : ℕ) → length words ≤ p / 64 → flag words p ≡ 0
flag_past words p le = ap (λ w. bit_at w (p % 64)) (get_or_past words (p / 64) 0 le)
    ∙ bit_at-zero (p % 64)

pub flag_is : (words : List ℕ) (p : ℕ) → slice_index_or (flags words) p 0 ≡ flag words p
flag_is words p = go (split p (64 * length words))
  where
    go : (p < 64 * length words) ⊎ (64 * length words ≤ p)
        → slice_index_or (flags words) p 0 ≡ flag words p
    go (inl lt) = get_or-map-range_with_len (flag words) 0 (64 * length words) p p 0 lt
        (omega arith)
    go (inr le) = get_or_past (flags words) p 0 (let n = flags_count words in omega (arith, n, le))
        ∙ sym (flag_past words p (omega (arith, le)))

-- a word that is not 0 has a flag
pub word_flag : (words : List ℕ) (w : ℕ) → slice_index_or words w 0 ≢ 0
    → slice_index_or words w 0 < 2 ^ 64 → (p : ℕ) × (p / 64 ≡ w) × (flag words p ≡ 1)
word_flag words w some fits =
    let word = slice_index_or words w 0 in
    let found = bit_at-trailing_zeros w64 word (omega (arith, some)) fits in
    let bit = trailing_zeros w64 word in
    let at : (64 * w + bit) / 64 ≡ w = omega (arith, found.0) in
    let rest : (64 * w + bit) % 64 ≡ bit = omega (arith, found.0) in (
      64 * w + bit,
      at,
      ap (λ i. bit_at (slice_index_or words i 0) ((64 * w + bit) % 64)) at
          ∙ (ap (bit_at word) rest ∙ found.1),
    )

-- a flag is of a word that is not 0
pub flag_word : (words : List ℕ) (p : ℕ) → flag words p ≢ 0 → slice_index_or words (p / 64) 0 ≢ 0
flag_word words p some none = some (ap (λ w. bit_at w (p % 64)) none ∙ bit_at-zero (p % 64))

pub no_flags : (words : List ℕ) → ((w : ℕ) → slice_index_or words w 0 ≡ 0)
    → (p : ℕ) → slice_index_or (flags words) p 0 ≡ 0
no_flags words none p = flag_is words p
    ∙ (ap (λ w. bit_at w (p % 64)) (none (p / 64)) ∙ bit_at-zero (p % 64))

-- ---- one word is written
flag_put : (words : List ℕ) (w v p : ℕ) → w < length words → p / 64 ≡ w
    → flag (set words w v) p ≡ bit_at v (p % 64)
flag_put words w v p lt at = ap (λ i. bit_at (slice_index_or (set words w v) i 0) (p % 64)) at
    ∙ ap (λ x. bit_at x (p % 64)) (get_or-set_same words w v 0 lt)

flag_kept : (words : List ℕ) (w v p : ℕ) → p / 64 ≢ w → flag (set words w v) p ≡ flag words p
flag_kept words w v p ne = ap (λ x. bit_at x (p % 64)) (get_or-set_other words w (p / 64) v 0 ne)

module _ (words : List ℕ) (p bits : ℕ) (lt : p / 64 < length words)
    (is : slice_index_or words (p / 64) 0 ≡ bits) where
  -- if only one bit changes
  module _ (v : ℕ) (others : (i : ℕ) → i < 64 → i ≢ p % 64 → bit_at v i ≡ bit_at bits i) where
    apart : (q : ℕ) → q ≢ p → q / 64 ≡ p / 64 → q % 64 ≢ p % 64
    apart q ne at same = ne (omega (arith, at, same))

    pub written_other : (q : ℕ) → q ≢ p → flag (set words (p / 64) v) q ≡ flag words q
    written_other q ne = go (cases_eq (q / 64) (p / 64))
      where
        go : (q / 64 ≡ p / 64) ⊎ (q / 64 ≢ p / 64) → flag (set words (p / 64) v) q ≡ flag words q
        go (inl at) = flag_put words (p / 64) v q lt at
            ∙ (others (q % 64) (omega arith) (apart q ne at) ∙ (ap (λ x. bit_at x (q % 64)) (sym is)
            ∙ ap (λ i. bit_at (slice_index_or words i 0) (q % 64)) (sym at)))
        go (inr off) = flag_kept words (p / 64) v q off

    pub written : (x : ℕ) → bit_at v (p % 64) ≡ x
        → flags (set words (p / 64) v) ≡ set (flags words) p x
    written x here = same_number_lists (flags (set words (p / 64) v)) (set (flags words) p x) long
        (λ k low. flag_is (set words (p / 64) v) k ∙ go k (cases_eq k p))
      where
        long : length (flags (set words (p / 64) v)) ≡ length (set (flags words) p x)
        long =
            let a = flags_count (set words (p / 64) v) in let b = flags_count words in
            let d = length-set words (p / 64) v in let e = length-set (flags words) p x in
            omega (arith, a, b, d, e)

        go : (k : ℕ) → (k ≡ p) ⊎ (k ≢ p)
            → flag (set words (p / 64) v) k ≡ slice_index_or (set (flags words) p x) k 0
        go k (inl same) = ap (flag (set words (p / 64) v)) same
            ∙ (flag_put words (p / 64) v p lt refl ∙ (here
            ∙ (sym (get_or-set_same (flags words) p x 0
            (let n = flags_count words in omega (arith, n, lt)))
            ∙ ap (λ i. slice_index_or (set (flags words) p x) i 0) (sym same))))
        go k (inr other) = written_other k other
            ∙ (sym (flag_is words k) ∙ sym (get_or-set_other (flags words) p k x 0 other))

  -- ---- a bit is set
  abbrev pub with_bit : ℕ
  with_bit = bit_or bits (1 * 2 ^ (p % 64) % 2 ^ 64)

  pub set_same : flag (set words (p / 64) with_bit) p ≡ 1
  set_same = flag_put words (p / 64) with_bit p lt refl
      ∙ bit_at_set_same w64 bits (p % 64) (omega arith)

  pub set_other : (q : ℕ) → q ≢ p → flag (set words (p / 64) with_bit) q ≡ flag words q
  set_other = written_other with_bit
      (λ i low ne. bit_at_set_other w64 bits (p % 64) (omega arith) i ne)

  pub set_flags : flags (set words (p / 64) with_bit) ≡ set (flags words) p 1
  set_flags = written with_bit (λ i low ne. bit_at_set_other w64 bits (p % 64) (omega arith) i ne) 1
      (bit_at_set_same w64 bits (p % 64) (omega arith))

  -- ---- a bit is cleared
  abbrev pub without_bit : ℕ
  without_bit = bit_and bits (bit_not w64 (1 * 2 ^ (p % 64) % 2 ^ 64))

  pub clear_same : flag (set words (p / 64) without_bit) p ≡ 0
  clear_same = flag_put words (p / 64) without_bit p lt refl
      ∙ bit_at_clear_same w64 bits (p % 64) (omega arith)

  pub clear_other : (q : ℕ) → q ≢ p → flag (set words (p / 64) without_bit) q ≡ flag words q
  clear_other = written_other without_bit
      (λ i low ne. bit_at_clear_other w64 bits (p % 64) (omega arith) i low ne)

  pub clear_flags : flags (set words (p / 64) without_bit) ≡ set (flags words) p 0
  clear_flags = written without_bit
      (λ i low ne. bit_at_clear_other w64 bits (p % 64) (omega arith) i low ne) 0
      (bit_at_clear_same w64 bits (p % 64) (omega arith))

-- ---- the first flag of a word
pub first_flag : (words : List ℕ) (at : ℕ) → slice_index_or words at 0 ≢ 0
    → slice_index_or words at 0 < 2 ^ 64
    → flag words (at * 64 + trailing_zeros w64 (slice_index_or words at 0)) ≡ 1
first_flag words at some fits =
    let word = slice_index_or words at 0 in
    let found = bit_at-trailing_zeros w64 word (omega (arith, some)) fits in
    let bit = trailing_zeros w64 word in
    let here : (at * 64 + bit) / 64 ≡ at = omega (arith, found.0) in
    let rest : (at * 64 + bit) % 64 ≡ bit = omega (arith, found.0) in
    ap (λ i. bit_at (slice_index_or words i 0) ((at * 64 + bit) % 64)) here
    ∙ (ap (bit_at word) rest ∙ found.1)

-- if the words before have none
pub first_flag_least : (words : List ℕ) (at from : ℕ) → slice_index_or words at 0 ≢ 0
    → slice_index_or words at 0 < 2 ^ 64
    → ((i : ℕ) → from ≤ i → i < at → slice_index_or words i 0 ≡ 0)
    → (p : ℕ) → 64 * from ≤ p → flag words p ≡ 1
    → at * 64 + trailing_zeros w64 (slice_index_or words at 0) ≤ p
first_flag_least words at from some fits none p low on = go (split (p / 64) at)
  where
    word : ℕ
    word = slice_index_or words at 0

    bit : ℕ
    bit = trailing_zeros w64 word

    found : (bit < 64) × (bit_at word bit ≡ 1) × ((i : ℕ) → i < bit → bit_at word i ≡ 0)
    found = bit_at-trailing_zeros w64 word (omega (arith, some)) fits

    below : p / 64 ≡ at → (p % 64 < bit) ⊎ (bit ≤ p % 64) → at * 64 + bit ≤ p
    below here (inl lt) =
        let off = found.2 (p % 64) lt in
        let is = ap (λ i. bit_at (slice_index_or words i 0) (p % 64)) here in
        absurd (omega (arith, off, is, on))
    below here (inr le) = omega (arith, here, le)

    same : (at < p / 64) ⊎ (p / 64 ≤ at) → at ≤ p / 64 → at * 64 + bit ≤ p
    same (inl lt) ge = let b = found.0 in omega (arith, lt, b)
    same (inr le) ge = below (omega (arith, le, ge)) (split (p % 64) bit)

    go : (p / 64 < at) ⊎ (at ≤ p / 64) → at * 64 + bit ≤ p
    go (inl lt) = absurd (flag_word words p (λ e. omega (arith, e, on))
        (none (p / 64) (omega (arith, low)) lt))
    go (inr ge) = same (split at (p / 64)) ge
