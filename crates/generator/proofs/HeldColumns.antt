-- The words of held columns, and the tests that are made of them.
use Rattle.std.proofs.Common.{◌≡◌, ◌<◌, ◌≤◌, ◌+◌, ◌*◌, ◌/◌, ◌%◌, ◌∙◌, ◌++◌, ℕ, zero, suc, Bool}
use Rattle.std.proofs.Common.{true, false, List, [], ◌∷◌, Option, Some, None, ap, arith, get_or}
use Rattle.std.{proofs.Common.{length, map, refl, sym}, specs.Int.bit_at, specs.List.enumerate_from}
use Rattle.std.specs.Prelude.{slice_get, slice_index, slice_index_or}
use Rattle.std.proofs.{Math.Nat.mul-le-mul_left, lemmas.List.{get_or-map, map_push}}
use Rattle.std.proofs.lemmas.List.FromFn.{get_or-enumerate_from, length-enumerate_from}
use Rattle.std.proofs.lemmas.Nat.{mod-mul-add, Bits.{bit_at-zero, bit_at_ones}}
use Rattle.std.proofs.lemmas.Option.{get_or_from_slice_get, slice_get-get_or, slice_get_within}
use Rattle.rand_core.specs.Stream.{Stream, next_u64}
use Rattle.text_lines.proofs.Public.{enumerate_from-append}
use Rattle.patterns.specs.Making.{IsMadeOf, word_of}
use Rattle.patterns.specs.Tests.{IsTestList, TestList, as_number, bit, blocks}
use Rattle.generator.specs.{Held.AreAllowed, RandomTests.{held_word, held_words, next_words}}

pub word_count : (n : ℕ) (s : Stream) → length (next_words n s) ≡ n
word_count zero s = refl
word_count (suc n) s = ap suc (word_count n (next_u64 s).1)

-- one word more
pub held_more : (bits : List (Option Bool)) (words : List ℕ) (word : ℕ)
    → held_words bits (words ++ word ∷ []) ≡ held_words bits words
    ++ held_word (slice_index_or bits (length words % length bits) None) word ∷ []
held_more bits words word =
    let of_column = λ (at : ℕ × ℕ).
    held_word (slice_index_or bits (at.0 % length bits) None) at.1 in
    ap (map of_column) (enumerate_from-append 0 words (word ∷ []))
    ∙ (map_push of_column (enumerate_from 0 words) (0 + length words, word)
    ∙ ap (λ n. held_words bits words
    ++ held_word (slice_index_or bits (n % length bits) None) word ∷ []) (omega arith))

-- the word at a place
held_at : (bits : List (Option Bool)) (words : List ℕ) (place : ℕ) → place < length words
    → slice_index (held_words bits words) place
    ≡ held_word (slice_index_or bits (place % length bits) None) (slice_index words place)
held_at bits words place lt =
    let of_column = λ (at : ℕ × ℕ).
    held_word (slice_index_or bits (at.0 % length bits) None) at.1 in
    let within : place < length (enumerate_from 0 words) =
    omega (arith, lt, length-enumerate_from 0 words) in
    get_or-map of_column (enumerate_from 0 words) place (0, 0) 0 within
    ∙ (ap of_column (get_or-enumerate_from 0 words place (0, 0) lt)
    ∙ ap (λ n. held_word (slice_index_or bits (n % length bits) None) (slice_index words place))
    (omega arith))

-- each bit of the word of a held column
held_bit : (b : Bool) (word lane : ℕ) → lane < 64
    → bit_at (held_word (Some b) word) lane ≡ as_number b
held_bit true word lane lt = bit_at_ones 64 lane lt
held_bit false word lane lt = bit_at-zero lane

same_bit : (a b : Bool) → as_number a ≡ as_number b → a ≡ b
same_bit true true e = refl
same_bit false false e = refl
same_bit true false e = let bad : 1 ≡ 0 = e in absurd (omega arith)
same_bit false true e = let bad : 0 ≡ 1 = e in absurd (omega arith)

-- The tests that are made of such words are allowed.
pub made_allowed : (bits : List (Option Bool)) (n : ℕ) (words : List ℕ) (t : TestList)
    → length words ≡ length bits * n → IsTestList t
    → IsMadeOf (length bits) (64 * n) (held_words bits words) t → AreAllowed bits t.tests
made_allowed bits n words t count list made k test at place b is =
    let width = length bits in
    let column : place < width = slice_get_within bits place (Some b) is in
    let within : k < length t.tests = slice_get_within t.tests k test at in
    let block = k / 64 in
    let lane = k % 64 in
    let low : lane < 64 = omega arith in
    let number : 64 * block + lane ≡ k = omega arith in
    let few : block < n = omega (arith, within, made.same_count) in
    let all : block < blocks (64 * n) = omega (arith, few) in
    let here = width * block + place in
    let rows : width * suc block ≤ width * n = mul-le-mul_left width (omega (arith, few)) in
    let inside : here < length words = omega (arith, rows, column, count) in
    let turned : here ≡ block * width + place = omega arith in
    let modulo : here % width ≡ place =
    ap (λ n. n % width) turned ∙ mod-mul-add block width place column in
    let word : word_of width (held_words bits words) block place
    ≡ held_word (Some b) (slice_index words here) = held_at bits words here inside
    ∙ ap (λ o. held_word o (slice_index words here)) (ap (λ p. slice_index_or bits p None) modulo
    ∙ get_or_from_slice_get bits place (Some b) None is) in
    let own : bit_at (word_of width (held_words bits words) block place) lane
    ≡ as_number (bit t.tests (64 * block + lane) place) =
    made.each block place all column lane low in
    let row : get_or t.tests k [] ≡ test = get_or_from_slice_get t.tests k test [] at in
    let same : as_number (get_or test place false) ≡ as_number b =
    ap (λ r. as_number (get_or r place false)) (sym row)
    ∙ (ap (λ j. as_number (bit t.tests j place)) (sym number)
    ∙ (sym own ∙ (ap (λ w. bit_at w lane) word ∙ held_bit b (slice_index words here) lane low))) in
    let each : length (get_or t.tests k []) ≡ t.width = list.each k [] within in
    let long : length test ≡ width = ap length (sym row) ∙ (each ∙ made.same_width) in
    slice_get-get_or test place false (omega (arith, column, long))
    ∙ ap (λ v. Some v) (same_bit (get_or test place false) b same)
