-- Lemmas on adding a test to the words that hold a list of tests.
use Rattle.std.proofs.Common.{◌≡◌, ◌≢◌, ℕ, ◌+◌, ◌*◌, ◌/◌, ◌%◌, ◌<◌, ◌≤◌, ◌==◌, Bool, false, List}
use Rattle.std.proofs.Common.{[], ◌∷◌, ◌++◌, map, length, get_or, set, replicate, sym, refl, ap}
use Rattle.std.proofs.Common.{◌∙◌, subst, ⊎_elim, arith, get_or-set_same, get_or-set_other}
use Rattle.std.{proofs.Common.length-set, specs.declared.vec.Vec.Vec, specs.Vec.with_items}
use Rattle.std.{specs.Int.bit_at, proofs.lemmas.List.{length_push, length-replicate}}
use Rattle.std.proofs.lemmas.List.{map_push, map-id, map-set, length-map, with_items_is}
use Rattle.std.proofs.lemmas.List.{get_or-replicate, get_or_past, get_or_append_left, get_or_push}
use Rattle.std.proofs.lemmas.{Bool.{cases_eq, cases_lt}, List.Elements.{All-push, All-set}}
use Rattle.patterns.specs.{Tests.{as_number, max_tests}, Least.below}
use Rattle.patterns.specs.Words.{word_at, bit_of, tests_of, AreWords, HaveRoom}
use Rattle.patterns.proofs.NumbersBelow.{map-below_more, map-below_same, map-below_elements}
use Rattle.patterns.proofs.TestWords.{as_number_one, word_lists, word_lists-read}

pub HaveRoom-in_last : (width count : ℕ) (words : List (List ℕ)) → count % 64 ≢ 0
    → AreWords width count words → HaveRoom width count words words
HaveRoom-in_last width count words inside are =
    record {
      block_count = are.block_count ∙ omega arith;
      each = are.each;
      same = λ block source. refl;
    }

get_or-zeros : (n i : ℕ) → ◌≡◌ {A = ℕ} (get_or (replicate n 0) i 0) 0
get_or-zeros n i = ⊎_elim (λ (h : i < n). get_or-replicate n i 0 0 h)
    (λ (h : n ≤ i). get_or_past (replicate n 0) i 0 (omega (arith, length-replicate {A = ℕ} n 0)))
    (cases_lt i n)

word_at-push_zeros : (words : List (List ℕ)) (width block source : ℕ)
    → word_at (words ++ replicate width 0 ∷ []) block source ≡ word_at words block source
word_at-push_zeros words width block source =
    let more = words ++ replicate width 0 ∷ [] in
    ⊎_elim (λ (h : block < length words). ap (λ row. get_or row source 0)
    (get_or_append_left words (replicate width 0 ∷ []) [] block h)) (λ (h : length words ≤ block).
    ⊎_elim (λ (last : length words ≡ block).
    ap (λ row. get_or row source 0) (get_or_push words (replicate width 0) [] block last)
    ∙ get_or-zeros width source
    ∙ sym (ap (λ row. get_or row source 0) (get_or_past words block [] h)))
    (λ (past : length words ≢ block). ap (λ row. get_or row source 0)
    (get_or_past more block [] (omega (arith, length_push words (replicate width 0))))
    ∙ sym (ap (λ row. get_or row source 0) (get_or_past words block [] h)))
    (cases_eq (length words) block)) (cases_lt block (length words))

HaveRoom-in_next : (width count : ℕ) (words : List (List ℕ)) → count % 64 ≡ 0
    → AreWords width count words → HaveRoom width count words (words ++ replicate width 0 ∷ [])
HaveRoom-in_next width count words full are =
    record {
      block_count = length_push words (replicate width 0) ∙ ap (λ n. n + 1) are.block_count
          ∙ omega arith;
      each = All-push (λ block. length block ≡ width) words (replicate width 0) are.each
          (length-replicate width 0);
      same = word_at-push_zeros words width;
    }

-- a row of bits that was written into the words of a block
pub record IsWritten (width lane : ℕ) (row : List Bool) (old new : List ℕ) : Type 0 where
  pub len : length new ≡ width
  pub lane_bits : (source : ℕ) → source < length row
      → bit_at (get_or new source 0) lane ≡ as_number (get_or row source false)
  pub other_bits : (source k : ℕ) → k ≢ lane
      → bit_at (get_or new source 0) k ≡ bit_at (get_or old source 0) k

module _ (width count : ℕ) (old words : List (List ℕ)) (row : List Bool) (new : List ℕ)
    (are : AreWords width count old) (room : HaveRoom width count old words)
    (written : IsWritten width (count % 64) row (get_or words (count / 64) []) new)
    (row_width : length row ≡ width) (limit : count < max_tests) where
  abbrev after : List (List ℕ)
  after = set words (count / 64) new

  here : get_or after (count / 64) [] ≡ new
  here = get_or-set_same words (count / 64) new [] (omega (arith, room.block_count))

  -- no other bit changes
  kept : (block source k : ℕ) → (block ≡ count / 64) → k ≢ count % 64
      → bit_at (word_at after block source) k ≡ bit_at (word_at old block source) k
  kept block source k same other =
      subst (λ b. bit_at (word_at after b source) k ≡ bit_at (word_at old b source) k) (sym same)
      (ap (λ r. bit_at (get_or r source 0) k) here ∙ written.other_bits source k other
      ∙ ap (λ w. bit_at w k) (room.same (count / 64) source))

  kept_block : (block source k : ℕ) → (block ≢ count / 64)
      → bit_at (word_at after block source) k ≡ bit_at (word_at old block source) k
  kept_block block source k other = ap (λ r. bit_at (get_or r source 0) k) (get_or-set_other words
      (count / 64) block new [] other) ∙ ap (λ w. bit_at w k) (room.same block source)

  kept_bit : (block source k : ℕ) → k < 64 → 64 * block + k ≢ count
      → bit_at (word_at after block source) k ≡ bit_at (word_at old block source) k
  kept_bit block source k in_word other = ⊎_elim (λ (same : block ≡ count / 64).
      kept block source k same (λ (e : k ≡ count % 64). other (omega arith)))
      (λ (apart : block ≢ count / 64). kept_block block source k apart)
      (cases_eq block (count / 64))

  pub AreWords-push : AreWords width (count + 1) after
  AreWords-push = record {
    limit = omega arith;
    block_count = length-set words (count / 64) new ∙ room.block_count;
    each = All-set (λ block. length block ≡ width) words (count / 64) new written.len room.each;
    idle = λ block source k past in_word.
        kept_bit block source k in_word (λ (e : 64 * block + k ≡ count). omega arith)
        ∙ are.idle block source k (omega arith) in_word;
  }

  same_test : (test : ℕ) → test < count
      → map (bit_of after test) (below width) ≡ map (bit_of old test) (below width)
  same_test test earlier = map-below_same (bit_of after test) (bit_of old test) width
      (λ source h. ap (λ n. n == 1) (kept_bit (test / 64) source (test % 64) (omega arith)
      (λ (e : 64 * (test / 64) + test % 64 ≡ count). omega arith)))

  new_test : map (bit_of after count) (below width) ≡ row
  new_test = map-below_elements (λ b. b) row (bit_of after count) width false row_width
      (λ source h. ap (λ r. bit_at (get_or r source 0) (count % 64) == 1) here
      ∙ ap (λ n. n == 1) (written.lane_bits source (omega arith)) ∙ as_number_one _) ∙ map-id row

  pub tests_of-push : tests_of width (count + 1) after ≡ tests_of width count old ++ row ∷ []
  unfolding tests_of
  tests_of-push = map-below_more (λ test. map (bit_of after test) (below width)) count
      ∙ ap (λ tests. tests ++ map (bit_of after count) (below width) ∷ [])
      (map-below_same _ _ count same_test)
      ∙ ap (λ test. map (λ test'. map (bit_of old test') (below width))
      (below count) ++ test ∷ []) new_test

-- ---- the same at the vectors of the code

-- a block of zeros was pushed
pub HaveRoom-pushed : {Z : Type 0} (width count : ℕ) (old new : List (Vec ℕ Z)) (fresh : Vec ℕ Z)
    → new ≡ old ++ fresh ∷ [] → fresh.items ≡ replicate width 0
    → count % 64 ≡ 0 → AreWords width count (word_lists old)
    → HaveRoom width count (word_lists old) (word_lists new)
HaveRoom-pushed width count old new fresh is zeros full are =
    let pushed : word_lists new ≡ word_lists old ++ replicate width 0 ∷ [] =
    ap word_lists is ∙ map_push (λ v. v.items) old fresh
    ∙ ap (λ row. word_lists old ++ row ∷ []) zeros
    in subst (HaveRoom width count (word_lists old)) (sym pushed)
    (HaveRoom-in_next width count (word_lists old) full are)

module _ {Z : Type 0} (width count : ℕ) (old : List (List ℕ)) (words : List (Vec ℕ Z))
    (block : Vec ℕ Z) (room : HaveRoom width count old (word_lists words))
    (read : block ≡ get_or words (count / 64) block) where
  within : count / 64 < length words
  within = omega (arith, room.block_count, length-map words (λ (v : Vec ℕ Z). v.items))

  pub room_block : get_or (word_lists words) (count / 64) [] ≡ block.items
  room_block = word_lists-read words (count / 64) block within read

  pub room_width : length block.items ≡ width
  room_width = ap length (sym room_block) ∙ room.each (count / 64) []
      (omega (arith, within, length-map words (λ (v : Vec ℕ Z). v.items)))

  -- the lane of the next test is free
  pub room_clear : AreWords width count old → (source : ℕ)
      → bit_at (get_or block.items source 0) (count % 64) ≡ 0
  room_clear are source = ap (λ row. bit_at (get_or row source 0) (count % 64)) (sym room_block)
      ∙ ap (λ w. bit_at w (count % 64)) (room.same (count / 64) source)
      ∙ are.idle (count / 64) source (count % 64) (omega arith) (omega arith)

  module _ (row : List Bool) (new : List ℕ) (len : length new ≡ length block.items)
      (lane_bits : (source : ℕ) → source < length row
      → bit_at (get_or new source 0) (count % 64) ≡ as_number (get_or row source false))
      (other_bits : (source k : ℕ) → k ≢ count % 64
      → bit_at (get_or new source 0) k ≡ bit_at (get_or block.items source 0) k) where
    IsWritten-from_bits : IsWritten width (count % 64) row
        (get_or (word_lists words) (count / 64) []) new
    IsWritten-from_bits = record {
      len = len ∙ room_width;
      lane_bits = lane_bits;
      other_bits = λ source k other. other_bits source k other
          ∙ ap (λ old_row. bit_at (get_or old_row source 0) k) (sym room_block);
    }

    abbrev written : List (Vec ℕ Z)
    written = set words (count / 64) (with_items block new)

    word_lists-written : word_lists written ≡ set (word_lists words) (count / 64) new
    word_lists-written = map-set (λ v. v.items) words (count / 64) (with_items block new)
        ∙ ap (set (word_lists words) (count / 64)) (with_items_is block new (len ∙ sym block.ok.0))

    pub AreWords-written : AreWords width count old → length row ≡ width → count < max_tests
        → AreWords width (count + 1) (word_lists written)
    AreWords-written are row_width limit =
        subst (AreWords width (count + 1)) (sym word_lists-written) (AreWords-push width count old
        (word_lists words) row new are room IsWritten-from_bits row_width limit)

    pub tests_of-written : AreWords width count old → length row ≡ width → count < max_tests
        → tests_of width (count + 1) (word_lists written) ≡ tests_of width count old ++ row ∷ []
    tests_of-written are row_width limit = ap (tests_of width (count + 1)) word_lists-written
        ∙ tests_of-push width count old
        (word_lists words) row new are room IsWritten-from_bits row_width limit
