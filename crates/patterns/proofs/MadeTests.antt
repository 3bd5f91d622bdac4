-- Lemmas on tests that are made of words or of bits, and on the row of a test.
use Rattle.std.proofs.Common.{◌≡◌, ◌≢◌, ℕ, ◌+◌, ◌-◌, ◌*◌, ◌/◌, ◌%◌, ◌^◌, ◌<◌, ◌≤◌, Bool, false}
use Rattle.std.proofs.Common.{List, [], ◌∷◌, ◌++◌, map, length, get_or, drop, sym, refl, ap, ◌∙◌}
use Rattle.std.{proofs.Common.{subst, ⊎_elim, arith, length-append}, specs.Prelude.slice_range}
use Rattle.std.{specs.Int.bit_at, proofs.Math.Nat.{div-eq_of_lt, mul-le-mul_left}}
use Rattle.std.proofs.{Math.Seq.get_or-append_seam, lemmas.Bool.{cases_eq, cases_lt}}
use Rattle.std.proofs.lemmas.Nat.Bits.{bit_at-zero, bit_at_above}
use Rattle.std.proofs.lemmas.List.{same_lists, length-map, get_or-map, get_or_default, get_or_past}
use Rattle.std.proofs.lemmas.List.{get_or-take, get_or-drop, get_or_append_left, get_or-append-add}
use Rattle.std.proofs.lemmas.List.{length-take, length-drop, length_push}
use Rattle.patterns.specs.{Tests.{IsWord, blocks, size_of, max_tests}, Least.below}
use Rattle.patterns.specs.Words.{word_at, bit_of, tests_of, AreWords}
use Rattle.patterns.specs.Making.{word_of, IsMadeOf, HasIdleBit, digit, row_text}
use Rattle.patterns.proofs.NumbersBelow.{get_or-map-below}
use Rattle.patterns.proofs.TestWords.{IsWord-from_words, length-tests_of}

-- a list whose elements are a list's, each changed, is that list changed
pub map-from_each : {X Y : Type 0} (f : X → Y) (xs : List X) (ys : List Y) (e : X)
    → length ys ≡ length xs
    → ((k : ℕ) (d : Y) → k < length xs → get_or ys k d ≡ f (get_or xs k e)) → ys ≡ map f xs
map-from_each f xs ys e len each = same_lists _ _ (len ∙ sym (length-map xs f))
    (λ k d h. let in_xs : k < length xs = omega (arith, h, len) in
    each k d in_xs ∙ sym (get_or-map f xs k e d in_xs))

-- ---- bits past the last test

size_of_full : (count block : ℕ) → 64 * block + 64 ≤ count → size_of count block ≡ 64
size_of_full count block h = omega arith

size_of_last : (count : ℕ) → size_of count (count / 64) ≡ count % 64
size_of_last count = omega arith

-- a word that is not 0 above some bits is as large as they let it be
pub large_above : (word lanes : ℕ) → word / 2 ^ lanes ≢ 0 → 2 ^ lanes ≤ word
large_above word lanes some = ⊎_elim
    (λ (small : word < 2 ^ lanes). absurd (some (div-eq_of_lt small)))
    (λ (large : 2 ^ lanes ≤ word). large) (cases_lt word (2 ^ lanes))

module _ (width count : ℕ) (words : List ℕ) (fits : (i : ℕ) → get_or words i 0 < 2 ^ 64) where
  pub idle_here : (source : ℕ) → count % 64 ≢ 0 → 2 ^ (count % 64) ≤ get_or words
      (width * (count / 64) + source) 0 → HasIdleBit width count words source
  idle_here source some large = (
    count / 64,
    omega arith,
    subst (λ n. 2 ^ n ≤ get_or words (width * (count / 64) + source) 0)
        (sym (size_of_last count)) large,
  )

  full_clear : (block source : ℕ) → 64 * block + 64 ≤ count
      → 2 ^ size_of count block ≤ word_of width words block source → ⊥
  full_clear block source full large =
      let at : 2 ^ 64 ≤ get_or words (width * block + source) 0 = subst (λ n.
      2 ^ n ≤ get_or words (width * block + source) 0) (size_of_full count block full) large in
      let small = fits (width * block + source) in
      omega (arith, at, small)

  pub not_idle : (source : ℕ) → get_or words (width * (count / 64) + source) 0 < 2 ^ (count % 64)
      → HasIdleBit width count words source → ⊥
  not_idle source small has =
      let within : has.0 < blocks count = has.1 in
      ⊎_elim (λ (last : has.0 ≡ count / 64).
      let large : 2 ^ (count % 64) ≤ get_or words (width * (count / 64) + source) 0 =
      subst (λ n. 2 ^ n ≤ get_or words (width * (count / 64) + source) 0) (size_of_last count)
      (subst (λ b. 2 ^ size_of count b ≤ get_or words (width * b + source) 0) last has.2) in
      omega (arith, large, small))
      (λ (other : has.0 ≢ count / 64). full_clear has.0 source (omega (arith, within, other)) has.2)
      (cases_eq has.0 (count / 64))

  -- ---- the rows of the blocks

  module _ (rows : List (List ℕ)) (limit : count ≤ max_tests)
      (word_count : length words ≡ width * blocks count) (row_count : length rows ≡ blocks count)
      (each : (block : ℕ) → block < blocks count
      → get_or rows block [] ≡ slice_range words (width * block) (width * block + width))
      (clear : (source : ℕ) → source < width → HasIdleBit width count words source → ⊥) where
    room_of : (block : ℕ) → block < blocks count → width * block + width ≤ length words
    room_of block h =
        let more : block + 1 ≤ blocks count = omega arith in
        omega (arith, word_count, mul-le-mul_left width more)

    width_of : (block : ℕ) → block < blocks count → length (get_or rows block []) ≡ width
    width_of block h = ap length (each block h)
        ∙ length-take (width * block + width - width * block) (drop (width * block) words)
        ∙ omega (arith, length-drop (width * block) words, room_of block h)

    word_in : (block source : ℕ) → block < blocks count → source < width
        → word_at rows block source ≡ word_of width words block source
    word_in block source h in_width = ap (λ row. get_or row source 0) (each block h)
        ∙ get_or-take (width * block + width - width * block) (drop (width * block) words) source 0
        (omega arith) ∙ get_or-drop (width * block) words source 0

    idle : (block source k : ℕ) → count ≤ 64 * block + k → k < 64
        → bit_at (word_at rows block source) k ≡ 0
    idle block source k past in_word = ⊎_elim (λ (there : block < blocks count). ⊎_elim
        (λ (in_width : source < width). ap (λ w. bit_at w k) (word_in block source there in_width)
        ∙ ⊎_elim
        (λ (small : word_of width words block source < 2 ^ size_of count block). bit_at_above
        (word_of width words block source) (size_of count block) k small (omega arith))
        (λ (large : 2 ^ size_of count block ≤ word_of width words block source).
        absurd (clear source in_width (block, there, large)))
        (cases_lt (word_of width words block source) (2 ^ size_of count block)))
        (λ (out : width ≤ source). ap (λ w. bit_at w k) (get_or_past (get_or rows block []) source 0
        (omega (arith, width_of block there))) ∙ bit_at-zero k) (cases_lt source width))
        (λ (out : blocks count ≤ block). ap (λ row. bit_at (get_or row source 0) k)
        (get_or_past rows block [] (omega (arith, row_count))) ∙ bit_at-zero k)
        (cases_lt block (blocks count))

    pub AreWords-from_rows : AreWords width count rows
    AreWords-from_rows = record {
      limit = limit;
      block_count = row_count;
      each = λ b d h.
          let there : b < blocks count = omega (arith, row_count) in
          ap length (get_or_default rows b d [] h) ∙ width_of b there;
      idle = idle;
    }

    pub IsMadeOf-from_rows : IsMadeOf width count words (record {
      width = width;
      tests = tests_of width count rows;
    })
    IsMadeOf-from_rows = record {
      same_width = refl;
      same_count = length-tests_of width count rows;
      word_count = word_count;
      each = λ block source h in_width.
          subst (IsWord (tests_of width count rows) block source) (word_in block source h in_width)
          (IsWord-from_words width count rows block source AreWords-from_rows in_width);
    }

-- ---- the row of a test

-- a text that ends in a row
pub row_pushed : (old new : List ℕ) (row : List Bool) → length new ≡ length old + length row + 1
    → ((k d : ℕ) → k < length old → get_or new k d ≡ get_or old k d)
    → ((k d : ℕ) → k < length row → get_or new (length old + k) d ≡ digit (get_or row k false))
    → ((d : ℕ) → get_or new (length old + length row) d ≡ 10) → new ≡ old ++ row_text row
row_pushed old new row len before digits end =
    let row_len : length (row_text row) ≡ length row + 1 = length_push (map digit row) 10
    ∙ ap (λ n. n + 1) (length-map row digit) in
    same_lists _ _ (len ∙ omega (arith, row_len) ∙ sym (length-append old (row_text row))) (λ k d h.
    ⊎_elim (λ (early : k < length old). before k d early
    ∙ sym (get_or_append_left old (row_text row) d k early)) (λ (late : length old ≤ k).
    let j = k - length old in
    let at : k ≡ length old + j = omega arith in
    subst (λ i. get_or new i d ≡ get_or (old ++ row_text row) i d) (sym at) (⊎_elim
    (λ (in_row : j < length row). digits j d in_row ∙ sym (get_or-append-add old (row_text row) j d
    ∙ get_or_append_left (map digit row) (10 ∷ []) d j (omega (arith, length-map row digit))
    ∙ get_or-map digit row j false d in_row)) (λ (past : length row ≤ j).
    let last : j ≡ length row = omega (arith, h, len, at) in
    subst (λ i. get_or new (length old + i) d ≡ get_or (old ++ row_text row) (length old + i) d)
    (sym last) (end d ∙ sym (get_or-append-add old (row_text row) (length row) d
    ∙ subst (λ i. get_or (row_text row) i d ≡ 10) (length-map row digit)
    (get_or-append_seam (map digit row) 10 [] d)))) (cases_lt j (length row))))
    (cases_lt k (length old)))

-- the test of words that hold tests
pub test_from_words : (width count : ℕ) (words : List (List ℕ)) (test : ℕ) → test < count
    → get_or (tests_of width count words) test [] ≡ map (bit_of words test) (below width)
unfolding tests_of
test_from_words width count words test h = get_or-map-below _ count test [] h

pub bit_from_words : (width : ℕ) (words : List (List ℕ)) (test source : ℕ) → source < width
    → get_or (map (bit_of words test) (below width)) source false ≡ bit_of words test source
bit_from_words width words test source h = get_or-map-below (bit_of words test) width source false h
