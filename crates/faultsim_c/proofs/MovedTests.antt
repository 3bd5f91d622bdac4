-- The last test of a list and new ones after it, from the words of the new ones.
use Rattle.std.proofs.Common.{◌≡◌, ◌<◌, ◌≤◌, ◌+◌, ◌-◌, ◌*◌, ◌/◌, ◌%◌, ◌^◌, ◌==◌, ◌∙◌, ◌⊎◌, inl, inr}
use Rattle.std.proofs.Common.{ℕ, zero, suc, Bool, false, true, List, [], ◌∷◌, ◌++◌, All, ap, arith}
use Rattle.std.{proofs.Common.{get_or, length, length-append, refl, subst, sym}, specs.Int.bit_at}
use Rattle.std.proofs.{Math.Nat.{mod-lt, mul-le-mul_left}, lemmas.Bool.cases_lt}
use Rattle.std.proofs.lemmas.List.{get_or_append_left, get_or_default, get_or_past, same_lists}
use Rattle.std.proofs.lemmas.{List.Elements.{All-cons, All-push}, Nat.Bits.same_from_bits_below}
use Rattle.std.proofs.lemmas.Nat.{div-add-mod', pow_pos, same_from_place}
use Rattle.std.proofs.lemmas.Nat.Bits.{bit_at-suc, bit_at_above, bit_at_cat_low, bit_at_lowest}
use Rattle.patterns.specs.Making.{IsMadeOf, IsWordsRefusal, word_of}
use Rattle.patterns.specs.Tests.{IsTestList, IsWord, TestList, as_number, bit, blocks, size_of}
use Rattle.patterns.specs.declared.WordsFault.{WordsFault}
use Rattle.patterns.specs.declared.WordsFault.TheVariants as words_fault
use Rattle.faultsim_c.{specs.Following.{AreFirstWords, after_last}, proofs.LastTests.last_some}
use mir.Val.{bool_byte}

-- ---- bits of tests
number_one : (b : Bool) → (as_number b == 1) ≡ b
number_one true = refl
number_one false = refl

number_small : (b : Bool) → as_number b < 2
number_small true = omega arith
number_small false = omega arith

pub byte_number : (b : Bool) → bool_byte b ≡ as_number b
byte_number true = refl
byte_number false = refl

same_bit : (a b : Bool) → as_number a ≡ as_number b → a ≡ b
same_bit a b e = sym (number_one a) ∙ (ap (λ n. n == 1) e ∙ number_one b)

-- past the last test there is none
bit_past : (tests : List (List Bool)) (t source : ℕ) → length tests ≤ t → bit tests t source ≡ false
bit_past tests t source le = ap (λ row. get_or row source false) (get_or_past tests t [] le)

-- ---- the last test and the new ones
module _ (old new : List (List Bool)) (some : 0 < length old) where
  abbrev last : List Bool
  last = get_or old (length old - 1) []

  joined : after_last old new ≡ last ∷ new
  joined = ap (λ (l : List (List Bool)). l ++ new) (last_some old some)

  pub joined_count : length (after_last old new) ≡ length new + 1
  joined_count = ap length joined ∙ omega arith

  -- each has the width
  pub all_wide : (width : ℕ) → All (λ test. length test ≡ width) old
      → All (λ test. length test ≡ width) new
      → All (λ test. length test ≡ width) (after_last old new)
  all_wide width own others = subst (All (λ test. length test ≡ width)) (sym joined)
      (All-cons (λ test. length test ≡ width) last new
      (own (length old - 1) [] (omega (arith, some))) others)

  -- the bits of the others after it
  pub bit_later : (t source : ℕ) → bit (after_last old new) (t + 1) source ≡ bit new t source
  bit_later t source =
      let next : t + 1 ≡ suc t = omega arith in
      ap (λ l. bit l (t + 1) source) joined ∙ ap (λ n. bit (last ∷ new) n source) next

  -- a word that has moved by a test
  pub word_moved : (block source word first moved : ℕ)
      → first ≡ as_number (bit (after_last old new) (64 * block) source)
      → IsWord new block source word → moved ≡ word % 2 ^ 63 * 2 + first
      → IsWord (after_last old new) block source moved
  word_moved block source word first moved own is e zero lt =
      let small = number_small (bit (after_last old new) (64 * block) source) in
      let here : 64 * block ≡ 64 * block + 0 = omega arith in
      let low : moved % 2 ≡ first = omega (arith, e, own, small) in
      bit_at_lowest moved ∙ (low ∙ (own
      ∙ ap (λ t. as_number (bit (after_last old new) t source)) here))
  word_moved block source word first moved own is e (suc k) lt =
      let small = number_small (bit (after_last old new) (64 * block) source) in
      let half : moved / 2 ≡ word % 2 ^ 63 = omega (arith, e, own, small) in
      let parts : word / 2 ^ 63 * 2 ^ 63 + word % 2 ^ 63 ≡ word = omega arith in
      let at : 64 * block + k + 1 ≡ 64 * block + suc k = omega arith in
      bit_at-suc moved k ∙ (ap (λ n. bit_at n k) half
      ∙ (sym (bit_at_cat_low (word / 2 ^ 63) 63 (word % 2 ^ 63) k (omega (arith, lt)))
      ∙ (ap (λ n. bit_at n k) parts ∙ (is k (omega (arith, lt))
      ∙ (ap as_number (sym (bit_later (64 * block + k) source))
      ∙ ap (λ t. as_number (bit (after_last old new) t source)) at)))))

-- ---- words one after the other
-- one word more
pub words_more : (tests : List (List Bool)) (width : ℕ) (words : List ℕ) (block source word : ℕ)
    → length words ≡ width * block + source → source < width → word < 2 ^ 64
    → IsWord tests block source word → AreFirstWords tests width words
    → AreFirstWords tests width (words ++ word ∷ [])
words_more tests width words block source word count within few is was = record {
  fits = All-push (λ n. n < 2 ^ 64) words word was.fits few;
  each = λ b s lt low. go b s lt low (cases_lt (width * b + s) (length words));
}
  where
    go : (b s : ℕ) → s < width → width * b + s < length (words ++ word ∷ [])
        → (width * b + s < length words) ⊎ (length words ≤ width * b + s)
        → IsWord tests b s (word_of width (words ++ word ∷ []) b s)
    go b s lt low (inl old) = subst (IsWord tests b s)
        (sym (get_or_append_left words (word ∷ []) 0 (width * b + s) old)) (was.each b s lt old)
    go b s lt low (inr end) =
        let long = length-append words (word ∷ []) in
        let here : width * b + s ≡ length words = omega (arith, long, low, end) in
        let turned : b * width + s ≡ block * width + source =
        (let x : b * width ≡ width * b = omega arith in
        let y : block * width ≡ width * block = omega arith in
        omega (arith, here, count, x, y)) in
        let both = same_from_place b s block source width lt within turned in
        let value : get_or (words ++ word ∷ []) (width * b + s) 0 ≡ word =
        ap (λ n. get_or (words ++ word ∷ []) n 0) here ∙ last_one words word in
        subst (IsWord tests b s) (sym value) (subst (λ n. IsWord tests n s word) (sym both.0)
        (subst (λ n. IsWord tests block n word) (sym both.1) is))
      where
        last_one : (xs : List ℕ) (x : ℕ) → get_or (xs ++ x ∷ []) (length xs) 0 ≡ x
        last_one [] x = refl
        last_one (y ∷ xs) x = last_one xs x

-- ---- the words are right
-- no word has a bit past the last test
word_fits : (tests : List (List Bool)) (block source word : ℕ) → word < 2 ^ 64
    → IsWord tests block source word → word < 2 ^ size_of (length tests) block
word_fits tests block source word few is =
    let n = size_of (length tests) block in
    let low = word % 2 ^ n in
    let parts : word / 2 ^ n * 2 ^ n + low ≡ word = div-add-mod' word (2 ^ n) in
    let below : low < 2 ^ n = mod-lt word (pow_pos n) in
    let same : word ≡ low = same_from_bits_below 64 word low few (omega (arith, few, parts))
    (λ i lt. (elim (cases_lt i n) [
      | inl x ↦ ap (λ m. bit_at m i) (sym parts) ∙ bit_at_cat_low (word / 2 ^ n) n low i x
      | inr x ↦ (let past : length tests ≤ 64 * block + i = omega (arith, x, lt) in
          is i lt ∙ (ap as_number (bit_past tests (64 * block + i) source past)
          ∙ sym (bit_at_above low n i below x)))
    ])) in
    omega (arith, same, below)

module _ (tests : List (List Bool)) (width : ℕ) (words : List ℕ)
    (long : length words ≡ width * blocks (length tests)) (are : AreFirstWords tests width words)
  where
    within : (block source : ℕ) → block < blocks (length tests) → source < width
        → width * block + source < length words
    within block source lt low =
        let n = blocks (length tests) in
        let more : block + 1 ≤ n = omega (arith, lt) in
        omega (arith, long, low, mul-le-mul_left width more)

    -- they are refused only for memory
    pub not_refused : (fault : WordsFault) → length tests ≤ 65536
        → IsWordsRefusal width (length tests) words fault → fault ≡ words_fault.Memory
    not_refused words_fault.TooMany le bad = absurd (omega (arith, le, bad))
    not_refused words_fault.BadCount le bad = absurd (bad.1 long)
    not_refused (words_fault.IdleBits source) le bad =
        let first = bad.2 in
        let low = first.0 in
        let idle = first.1 in
        let at = within idle.0 source idle.1 low in
        let own = word_fits tests idle.0 source (word_of width words idle.0 source)
        (are.fits (width * idle.0 + source) 0 at) (are.each idle.0 source low at) in
        let over = idle.2 in
        absurd (omega (arith, own, over))
    not_refused words_fault.Memory le bad = refl

    -- tests that are made of them are these tests
    pub same_tests : (made : TestList) → IsMadeOf width (length tests) words made → IsTestList made
        → All (λ test. length test ≡ width) tests → made.tests ≡ tests
    same_tests made is list each = same_lists made.tests tests is.same_count (λ t d lt.
        let own = get_or made.tests t d in
        let here : t < length tests = (let count = is.same_count in omega (arith, lt, count)) in
        let one = list.each t d lt ∙ is.same_width in
        let other = each t d here in
        same_lists own (get_or tests t d) (one ∙ sym other) (λ s e low.
        let inside : s < width = omega (arith, low, one) in
        let inside_other : s < length (get_or tests t d) = omega (arith, inside, other) in
        let block = t / 64 in
        let k = t % 64 in
        let in_block : block < blocks (length tests) = omega (arith, here) in
        let lane : k < 64 = omega arith in
        let at : 64 * block + k ≡ t = omega arith in
        let a = is.each block s in_block inside k lane in
        let b = are.each block s inside (within block s in_block inside) k lane in
        let bits : bit made.tests t s ≡ bit tests t s = ap (λ n. bit made.tests n s) (sym at)
        ∙ (same_bit (bit made.tests (64 * block + k) s) (bit tests (64 * block + k) s) (sym a ∙ b)
        ∙ ap (λ n. bit tests n s) at) in
        get_or_default own s e false low
        ∙ (ap (λ (row : List Bool). get_or row s false) (get_or_default made.tests t d [] lt)
        ∙ (bits ∙ (ap (λ (row : List Bool). get_or row s false) (get_or_default tests t [] d here)
        ∙ get_or_default (get_or tests t d) s false e inside_other)))))
