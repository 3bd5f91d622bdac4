-- Lemmas on tests and the words that hold them.
use Rattle.std.proofs.Common.{◌≡◌, ℕ, ◌+◌, ◌*◌, ◌/◌, ◌%◌, ◌<◌, ◌≤◌, Bool, true, false, ◌==◌, List}
use Rattle.std.proofs.Common.{[], map, length, get_or, sym, refl, ap, ◌∙◌, arith, ◌≢◌, ⊎_elim, All}
use Rattle.std.{specs.declared.vec.Vec.Vec, specs.Int.bit_at, proofs.lemmas.Nat.Bits.bit_at-lt}
use Rattle.std.proofs.lemmas.List.{get_or-map, length-map, Elements.All-map}
use Rattle.std.proofs.lemmas.Bool.{cases_eq, cases_lt, eq-eqb, ne_eqb}
use Rattle.patterns.specs.Tests.{TestList, IsTestList, IsWord, bit, blocks, as_number}
use Rattle.patterns.specs.{Least.below, Words.{word_at, bit_of, tests_of, AreWords}}
use Rattle.patterns.proofs.NumbersBelow.{length-map-below, get_or-map-below, get_or-map-below_past}

-- the words of each block, as lists
abbrev pub word_lists : {Z : Type 0} → List (Vec ℕ Z) → List (List ℕ)
word_lists blocks = map (λ block. block.items) blocks

-- a block that was read
pub word_lists-read : {Z : Type 0} (blocks : List (Vec ℕ Z)) (b : ℕ) (block : Vec ℕ Z)
    → b < length blocks → block ≡ get_or blocks b block
    → get_or (word_lists blocks) b [] ≡ block.items
word_lists-read blocks b block within read = get_or-map (λ v. v.items) blocks b block [] within
    ∙ sym (ap (λ v. v.items) read)

pub length-tests_of : (width count : ℕ) (words : List (List ℕ))
    → length (tests_of width count words) ≡ count
unfolding tests_of
length-tests_of width count words = length-map-below _ count

bit-tests_of : (width count : ℕ) (words : List (List ℕ)) (test source : ℕ) → test < count
    → source < width → bit (tests_of width count words) test source ≡ bit_of words test source
unfolding tests_of
bit-tests_of width count words test source in_count in_width =
    ap (λ row. get_or row source false) (get_or-map-below _ count test [] in_count)
    ∙ get_or-map-below (bit_of words test) width source false in_width

bit-tests_of_past : (width count : ℕ) (words : List (List ℕ)) (test source : ℕ) → count ≤ test
    → bit (tests_of width count words) test source ≡ false
unfolding tests_of
bit-tests_of_past width count words test source past =
    ap (λ row. get_or row source false) (get_or-map-below_past _ count test [] past)

each-tests_of : (width count : ℕ) (words : List (List ℕ))
    → All (λ test. length test ≡ width) (tests_of width count words)
unfolding tests_of
each-tests_of width count words =
    All-map (λ test. length test ≡ width) _ (below count) (λ test d h. length-map-below _ width)

-- a block that there is begins before the last test
pub block_start : (count block : ℕ) → block < blocks count → 64 * block < count
block_start count block h = omega arith

pub as_number_one : (b : Bool) → (as_number b == 1) ≡ b
as_number_one true = refl
as_number_one false = refl

pub one_as_number : (n : ℕ) → n < 2 → as_number (n == 1) ≡ n
one_as_number n small = ⊎_elim (λ (one : n ≡ 1). ap as_number (eq-eqb n 1 one) ∙ sym one)
    (λ (other : n ≢ 1). ap as_number (ne_eqb n 1 other) ∙ omega arith) (cases_eq n 1)

-- the words of a block
pub IsWord-from_words : (width count : ℕ) (words : List (List ℕ)) (block source : ℕ)
    → AreWords width count words → source < width
    → IsWord (tests_of width count words) block source (word_at words block source)
IsWord-from_words width count words block source are in_width k in_word =
    let quotient : (64 * block + k) / 64 ≡ block = omega arith in
    let remainder : (64 * block + k) % 64 ≡ k = omega arith in
    let word = word_at words block source in
    ⊎_elim (λ (inside : 64 * block + k < count).
    sym (ap as_number (bit-tests_of width count words (64 * block + k) source inside in_width
    ∙ ap (λ q. bit_at (word_at words q source) ((64 * block + k) % 64) == 1) quotient
    ∙ ap (λ r. bit_at word r == 1) remainder) ∙ one_as_number (bit_at word k) (bit_at-lt word k)))
    (λ (past : count ≤ 64 * block + k). are.idle block source k past in_word
    ∙ sym (ap as_number (bit-tests_of_past width count words (64 * block + k) source past)))
    (cases_lt (64 * block + k) count)

pub IsTestList-from_words : (width count : ℕ) (words : List (List ℕ)) → AreWords width count words
    → IsTestList (record { width = width; tests = tests_of width count words })
IsTestList-from_words width count words are =
    record {
      each = each-tests_of width count words;
      count = rw (length-tests_of width count words) are.limit;
    }

-- the length of a block that was read
pub block_width : {Z : Type 0} (width count : ℕ) (words : List (Vec ℕ Z)) (b : ℕ) (block : Vec ℕ Z)
    → AreWords width count (word_lists words)
    → b < length words → block ≡ get_or words b block → length block.items ≡ width
block_width width count words b block are within read =
    ap length (sym (word_lists-read words b block within read))
    ∙ are.each b [] (omega (arith, length-map words (λ (v : Vec ℕ _). v.items)))

-- the tests in these words, as contracts see them
abbrev pub seen : {Z : Type 0} → ℕ → ℕ → List (Vec ℕ Z) → TestList
seen width count words = record { width = width; tests = tests_of width count (word_lists words) }

pub seen-count : {Z : Type 0} (width count : ℕ) (words : List (Vec ℕ Z)) (value : TestList)
    → seen width count words ≡ value → length value.tests ≡ count
seen-count width count words value is = sym (ap (λ t. length t.tests) is)
    ∙ length-tests_of width count (word_lists words)

-- a block of the tests is one of the words
pub block_within : {Z : Type 0} (width count : ℕ) (words : List (Vec ℕ Z)) (value : TestList)
    (b : ℕ) → seen width count words ≡ value
    → AreWords width count (word_lists words) → b < blocks (length value.tests) → b < length words
block_within width count words value b is are there =
    let same = ap blocks (seen-count width count words value is) in
    omega (arith, are.block_count, length-map words (λ (v : Vec ℕ _). v.items))

pub tests_of-none : (width : ℕ) (words : List (List ℕ)) → tests_of width 0 words ≡ []
unfolding tests_of
tests_of-none width words = refl
