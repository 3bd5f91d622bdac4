-- Lemmas on tests that are packed into a byte for each source, and on moving them into words.
use Rattle.std.proofs.Common.{◌≡◌, ◌≢◌, ℕ, ◌+◌, ◌-◌, ◌*◌, ◌/◌, ◌%◌, ◌^◌, ◌<◌, ◌≤◌, ◌==◌, Bool}
use Rattle.std.proofs.Common.{false, List, [], ◌∷◌, ◌++◌, map, length, get_or, set, max, All}
use Rattle.std.proofs.Common.{bit_or, sym, refl, ap, ◌∙◌, ⊎_elim, subst, arith, get_or-set_same}
use Rattle.std.{proofs.Common.{get_or-set_other, length-set}, specs.Int.bit_at}
use Rattle.std.proofs.lemmas.{Bool.{cases_eq, cases_lt}, List.Elements.{All-map, All-set}}
use Rattle.std.proofs.lemmas.{List.{get_or_past, map-id, map-set, with_items_is}, Nat.pow_pos}
use Rattle.std.proofs.lemmas.Nat.Bits.{bit_at-zero, bit_at-lt, bit_at_or, bit_at_cat_low}
use Rattle.std.{proofs.lemmas.Nat.Bits.bit_at_cat_high, specs.declared.vec.Vec.Vec}
use Rattle.std.specs.Vec.{with_items}
use Rattle.patterns.specs.Tests.{TestList, IsTestList, IsWord, as_number, bit, max_tests}
use Rattle.patterns.specs.{Least.below, Words.{word_at, bit_of, tests_of, AreWords, HaveRoom}}
use Rattle.patterns.{specs.Octets.{AreBytes, tests_in_bytes}, proofs.JoinedTests.map-below_sum}
use Rattle.patterns.proofs.NumbersBelow.{map-below_more, map-below_same, map-below_elements}
use Rattle.patterns.proofs.NumbersBelow.{length-map-below, get_or-map-below, get_or-map-below_past}
use Rattle.patterns.proofs.TestWords.{as_number_one, one_as_number, word_lists}
use Rattle.patterns.proofs.AddedTest.{room_block}

-- ---- one more test in the bytes

module _ (width count : ℕ) (old new row : List ℕ) (are : AreBytes width count old)
    (few : count < 8) (len : length new ≡ length old) (row_len : length row ≡ width)
    (set_bits : (source : ℕ) → source < length row
    → bit_at (get_or new source 0) count ≡ as_number (get_or row source 0 == 49))
    (others : (source k : ℕ) → k ≢ count
    → bit_at (get_or new source 0) k ≡ bit_at (get_or old source 0) k) where
  pub AreBytes-push : AreBytes width (count + 1) new
  AreBytes-push = record {
    few = omega arith;
    each = len ∙ are.each;
    idle = λ source k past. others source k (λ (e : k ≡ count). omega arith)
        ∙ are.idle source k (omega arith);
  }

  pub tests_in_bytes-push : tests_in_bytes width (count + 1) new
      ≡ tests_in_bytes width count old ++ map (λ b. b == 49) row ∷ []
  unfolding tests_in_bytes
  tests_in_bytes-push = map-below_more
      (λ test. map (λ source. bit_at (get_or new source 0) test == 1) (below width)) count
      ∙ ap (λ tests. tests
      ++ map (λ source. bit_at (get_or new source 0) count == 1) (below width) ∷ [])
      (map-below_same _ _ count (λ test h. map-below_same _ _ width (λ source _.
      ap (λ n. n == 1) (others source test (λ (e : test ≡ count). omega arith)))))
      ∙ ap (λ test. map (λ test'. map (λ source. bit_at (get_or old source 0) test' == 1)
      (below width)) (below count) ++ test ∷ [])
      (map-below_elements (λ b. b == 49) row (λ source. bit_at (get_or new source 0) count == 1)
      width 0 row_len
      (λ source h. ap (λ n. n == 1) (set_bits source (omega arith)) ∙ as_number_one _))

pub tests_in_bytes-none : (width : ℕ) (bytes : List ℕ) → tests_in_bytes width 0 bytes ≡ []
unfolding tests_in_bytes
tests_in_bytes-none width bytes = refl

pub length-tests_in_bytes : (width count : ℕ) (bytes : List ℕ)
    → length (tests_in_bytes width count bytes) ≡ count
unfolding tests_in_bytes
length-tests_in_bytes width count bytes = length-map-below _ count

-- the bytes are the words of the first block of the tests
pub IsWord-from_bytes : (width count : ℕ) (bytes : List ℕ) (source : ℕ) → AreBytes width count bytes
    → source < width → IsWord (tests_in_bytes width count bytes) 0 source (get_or bytes source 0)
unfolding tests_in_bytes
IsWord-from_bytes width count bytes source are in_width k in_word =
    let place : 64 * 0 + k ≡ k = omega arith in
    subst (λ test. bit_at (get_or bytes source 0) k
    ≡ as_number (bit (tests_in_bytes width count bytes) test source)) (sym place) (⊎_elim
    (λ (inside : k < count). sym (ap as_number
    (ap (λ row. get_or row source false) (get_or-map-below _ count k [] inside)
    ∙ get_or-map-below (λ s. bit_at (get_or bytes s 0) k == 1) width source false in_width)
    ∙ one_as_number (bit_at (get_or bytes source 0) k) (bit_at-lt (get_or bytes source 0) k)))
    (λ (past : count ≤ k). are.idle source k past
    ∙ sym (ap (λ row. as_number (get_or row source false))
    (get_or-map-below_past _ count k [] past))) (cases_lt k count))

-- the tests in these bytes, as contracts see them
pub octet-count : (width count : ℕ) (bytes : List ℕ) (value : TestList)
    → record { width = width; tests = tests_in_bytes width count bytes } ≡ value
    → length value.tests ≡ count
octet-count width count bytes value is = sym (ap (λ t. length t.tests) is)
    ∙ length-tests_in_bytes width count bytes

each-tests_in_bytes : (width count : ℕ) (bytes : List ℕ)
    → All (λ test. length test ≡ width) (tests_in_bytes width count bytes)
unfolding tests_in_bytes
each-tests_in_bytes width count bytes =
    All-map (λ test. length test ≡ width) _ (below count) (λ test d h. length-map-below _ width)

pub IsTestList-from_bytes : (width count : ℕ) (bytes : List ℕ) → AreBytes width count bytes
    → IsTestList (record { width = width; tests = tests_in_bytes width count bytes })
IsTestList-from_bytes width count bytes are = record {
  each = each-tests_in_bytes width count bytes;
  count = rw (length-tests_in_bytes width count bytes) (omega (arith, are.few));
}

-- ---- bytes shifted into words

-- of words whose lanes from this one on were 0, those below i have the bits of bytes there, and
-- every lane before is as it was
pub record IsMergedBelow (old words bytes : List ℕ) (lane i : ℕ) : Type 0 where
  pub done : (source k : ℕ) → source < i → lane + k < 64
      → bit_at (get_or words source 0) (lane + k) ≡ bit_at (get_or bytes source 0) k
  pub clear : (source k : ℕ) → i ≤ source → lane ≤ k → k < 64 → bit_at (get_or words source 0) k ≡ 0
  pub low : (source k : ℕ) → k < lane
      → bit_at (get_or words source 0) k ≡ bit_at (get_or old source 0) k

bit_below : (n k : ℕ) → k < 64 → bit_at (n % 2 ^ 64) k ≡ bit_at n k
bit_below n k in_word =
    let whole : n ≡ n / 2 ^ 64 * 2 ^ 64 + n % 2 ^ 64 = omega arith in
    sym (ap (λ m. bit_at m k) whole ∙ bit_at_cat_low (n / 2 ^ 64) 64 (n % 2 ^ 64) k in_word)

merged_low : (word byte lane k : ℕ) → lane < 64 → k < lane
    → bit_at (bit_or word (byte * 2 ^ lane % 2 ^ 64)) k ≡ bit_at word k
merged_low word byte lane k in_word low =
    let plus : byte * 2 ^ lane ≡ byte * 2 ^ lane + 0 = omega arith in
    bit_at_or word (byte * 2 ^ lane % 2 ^ 64) k
    ∙ ap (λ b. max (bit_at word k) b) (bit_below (byte * 2 ^ lane) k (omega arith)
    ∙ ap (λ n. bit_at n k) plus ∙ bit_at_cat_low byte lane 0 k low ∙ bit_at-zero k) ∙ omega arith

merged_high : (word byte lane k : ℕ) → lane + k < 64 → bit_at word (lane + k) ≡ 0
    → bit_at (bit_or word (byte * 2 ^ lane % 2 ^ 64)) (lane + k) ≡ bit_at byte k
merged_high word byte lane k in_word clear =
    let plus : byte * 2 ^ lane ≡ byte * 2 ^ lane + 0 = omega arith in
    let at : lane + k - lane ≡ k = omega arith in
    bit_at_or word (byte * 2 ^ lane % 2 ^ 64) (lane + k)
    ∙ ap (λ b. max b (bit_at (byte * 2 ^ lane % 2 ^ 64) (lane + k))) clear
    ∙ ap (λ b. max 0 b) (bit_below (byte * 2 ^ lane) (lane + k) in_word
    ∙ ap (λ n. bit_at n (lane + k)) plus
    ∙ bit_at_cat_high byte lane 0 (lane + k) (pow_pos lane) (omega arith) ∙ ap (bit_at byte) at)
    ∙ omega arith

pub IsMergedBelow-more : (old words bytes : List ℕ) (lane i : ℕ) → lane < 64 → i < length words
    → IsMergedBelow old words bytes lane i
    → IsMergedBelow old (set words i (bit_or (get_or words i 0)
    (get_or bytes i 0 * 2 ^ lane % 2 ^ 64))) bytes lane (i + 1)
IsMergedBelow-more old words bytes lane i in_word within before =
    let word = bit_or (get_or words i 0) (get_or bytes i 0 * 2 ^ lane % 2 ^ 64) in
    let written = set words i word in
    let here : get_or written i 0 ≡ word = get_or-set_same words i word 0 within in
    record {
      done = λ source k h in'. ⊎_elim
          (λ (same : source ≡ i). subst (λ s. bit_at (get_or written s 0) (lane + k)
          ≡ bit_at (get_or bytes s 0) k) (sym same) (ap (λ w. bit_at w (lane + k)) here
          ∙ merged_high (get_or words i 0) (get_or bytes i 0) lane k in'
          (before.clear i (lane + k) (omega arith) (omega arith) in')))
          (λ (other : source ≢ i). ap (λ w. bit_at w (lane + k))
          (get_or-set_other words i source word 0 other) ∙ before.done source k (omega arith) in')
          (cases_eq source i);
      clear = λ source k h late in'. ap (λ w. bit_at w k)
          (get_or-set_other words i source word 0 (λ (e : source ≡ i). omega arith))
          ∙ before.clear source k (omega arith) late in';
      low = λ source k early. ⊎_elim
          (λ (same : source ≡ i). subst (λ s. bit_at (get_or written s 0) k
          ≡ bit_at (get_or old s 0) k) (sym same) (ap (λ w. bit_at w k) here
          ∙ merged_low (get_or words i 0) (get_or bytes i 0) lane k in_word early
          ∙ before.low i k early)) (λ (other : source ≢ i). ap (λ w. bit_at w k)
          (get_or-set_other words i source word 0 other) ∙ before.low source k early)
          (cases_eq source i);
    }

-- ---- tests in bytes after tests in words

-- a block with room has no bit from the next test on
pub room_lanes : {Z : Type 0} (width count : ℕ) (old : List (List ℕ)) (words : List (Vec ℕ Z))
    (block : Vec ℕ Z) → HaveRoom width count old (word_lists words)
    → block ≡ get_or words (count / 64) block → AreWords width count old → (source k : ℕ)
    → count % 64 ≤ k → k < 64 → bit_at (get_or block.items source 0) k ≡ 0
room_lanes width count old words block room read are source k late in_word =
    ap (λ row. bit_at (get_or row source 0) k)
    (sym (room_block width count old words block room read))
    ∙ ap (λ w. bit_at w k) (room.same (count / 64) source)
    ∙ are.idle (count / 64) source k (omega arith) in_word

-- the words of blocks of which one was written
pub word_lists-set : {Z : Type 0} (words : List (Vec ℕ Z)) (b : ℕ) (block : Vec ℕ Z)
    (new : List ℕ) → length new ≡ length block.items
    → word_lists (set words b (with_items block new)) ≡ set (word_lists words) b new
word_lists-set words b block new len = map-set (λ v. v.items) words b (with_items block new)
    ∙ ap (set (word_lists words) b) (with_items_is block new (len ∙ sym block.ok.0))

-- the words after the tests in bytes were put after the tests in words: room was made in them, and
-- the lanes from the last test on have the bits of the bytes
pub record Moved (width m n : ℕ) (old words : List (List ℕ)) (more : List (List Bool))
    (bytes new : List ℕ) : Type 0 where
  pub are : AreWords width m old
  pub room : HaveRoom width m old words
  pub count : length more ≡ n
  pub each : All (λ test. length test ≡ width) more
  pub some : 0 < n
  pub fits : m % 64 + n ≤ 64
  pub limit : m + n ≤ max_tests
  pub is : (source : ℕ) → source < width → IsWord more 0 source (get_or bytes source 0)
  pub len : length new ≡ width
  pub low : (source k : ℕ) → k < m % 64 → bit_at (get_or new source 0) k
      ≡ bit_at (get_or (get_or words (m / 64) []) source 0) k
  pub high : (source k : ℕ) → source < width → m % 64 + k < 64
      → bit_at (get_or new source 0) (m % 64 + k) ≡ bit_at (get_or bytes source 0) k

module _ (width m n : ℕ) (old words : List (List ℕ)) (more : List (List Bool))
    (bytes new : List ℕ) (by : Moved width m n old words more bytes new) where
  abbrev after : List (List ℕ)
  after = set words (m / 64) new

  here : get_or after (m / 64) [] ≡ new
  here = get_or-set_same words (m / 64) new [] (omega (arith, by.room.block_count))

  bit_in : (source k : ℕ) → source < width → m % 64 + k < 64
      → bit_at (word_at after (m / 64) source) (m % 64 + k) ≡ as_number (bit more k source)
  bit_in source k in_width in_word =
      let place : 64 * 0 + k ≡ k = omega arith in
      ap (λ row. bit_at (get_or row source 0) (m % 64 + k)) here ∙ by.high source k in_width in_word
      ∙ by.is source in_width k (omega arith) ∙ ap (λ test. as_number (bit more test source)) place

  past_all : (source k : ℕ) → n ≤ k → bit more k source ≡ false
  past_all source k past = ap (λ row. get_or row source false) (get_or_past more k [] (omega arith))

  idle_here : (source k : ℕ) → m % 64 + n ≤ k → k < 64
      → bit_at (word_at after (m / 64) source) k ≡ 0
  idle_here source k past in_word =
      let j = k - m % 64 in
      let at : k ≡ m % 64 + j = omega arith in
      ⊎_elim (λ (in_width : source < width).
      ap (bit_at (word_at after (m / 64) source)) at ∙ bit_in source j in_width (omega arith)
      ∙ ap as_number (past_all source j (omega arith))) (λ (out : width ≤ source).
      ap (λ row. bit_at (get_or row source 0) k) here
      ∙ ap (λ w. bit_at w k) (get_or_past new source 0 (omega arith)) ∙ bit_at-zero k)
      (cases_lt source width)

  kept_block : (block source k : ℕ) → (block ≢ m / 64)
      → bit_at (word_at after block source) k ≡ bit_at (word_at old block source) k
  kept_block block source k other = ap (λ r. bit_at (get_or r source 0) k) (get_or-set_other words
      (m / 64) block new [] other) ∙ ap (λ w. bit_at w k) (by.room.same block source)

  pub AreWords-moved : AreWords width (m + n) after
  AreWords-moved = record {
    limit = by.limit;
    block_count = length-set words (m / 64) new ∙ by.room.block_count ∙ omega arith;
    each = All-set (λ block. length block ≡ width) words (m / 64) new by.len by.room.each;
    idle = λ block source k past in_word. ⊎_elim
        (λ (same : block ≡ m / 64). subst (λ b. bit_at (word_at after b source) k ≡ 0) (sym same)
        (idle_here source k (omega arith) in_word))
        (λ (other : block ≢ m / 64). kept_block block source k other
        ∙ by.are.idle block source k (omega arith) in_word) (cases_eq block (m / 64));
  }

  bit_before : (test source : ℕ) → test < m → bit_of after test source ≡ bit_of old test source
  bit_before test source h = ⊎_elim
      (λ (same : test / 64 ≡ m / 64). subst (λ b. (bit_at (word_at after b source) (test % 64) == 1)
      ≡ (bit_at (word_at old b source) (test % 64) == 1)) (sym same)
      (ap (λ row. bit_at (get_or row source 0) (test % 64) == 1) here
      ∙ ap (λ b. b == 1) (by.low source (test % 64) (omega arith)
      ∙ ap (λ w. bit_at w (test % 64)) (by.room.same (m / 64) source))))
      (λ (other : test / 64 ≢ m / 64). ap (λ b. b == 1)
      (kept_block (test / 64) source (test % 64) other)) (cases_eq (test / 64) (m / 64))

  bit_behind : (test source : ℕ) → test < n → source < width
      → bit_of after (m + test) source ≡ get_or (get_or more test []) source false
  bit_behind test source h in_width =
      let block : (m + test) / 64 ≡ m / 64 = omega arith in
      let lane : (m + test) % 64 ≡ m % 64 + test = omega arith in
      ap (λ b. bit_at (word_at after b source) ((m + test) % 64) == 1) block
      ∙ ap (λ k. bit_at (word_at after (m / 64) source) k == 1) lane
      ∙ ap (λ b. b == 1) (bit_in source test in_width (omega arith))
      ∙ as_number_one (bit more test source)

  pub tests_of-moved : tests_of width (m + n) after ≡ tests_of width m old ++ more
  unfolding tests_of
  tests_of-moved =
      map-below_sum (λ test. map (λ source. bit_of after test source) (below width)) m n
      ∙ ap (λ tests. tests ++ map
      (λ test. map (λ source. bit_of after (m + test) source) (below width)) (below n))
      (map-below_same _ _ m (λ test h. map-below_same _ _ width
      (λ source _. bit_before test source h)))
      ∙ ap (λ tests. map (λ test. map (λ source. bit_of old test source) (below width)) (below m)
      ++ tests) (map-below_elements (λ test. test) more
      (λ test. map (λ source. bit_of after (m + test) source) (below width)) n [] by.count
      (λ test h. map-below_elements (λ b. b) (get_or more test [])
      (λ source. bit_of after (m + test) source) width false (by.each test [] (omega arith))
      (λ source in_width. bit_behind test source h in_width) ∙ map-id (get_or more test []))
      ∙ map-id more)
