-- Lemmas on the words of tests that follow full blocks of others.
use Rattle.std.proofs.Common.{◌≡◌, ℕ, zero, suc, ◌+◌, ◌-◌, ◌*◌, ◌/◌, ◌%◌, ◌<◌, ◌≤◌, ◌==◌, List, []}
use Rattle.std.proofs.Common.{◌∷◌, ◌++◌, map, length, get_or, sym, ap, ◌∙◌, subst, ⊎_elim, arith}
use Rattle.std.{proofs.Common.length-append, specs.Int.bit_at, proofs.lemmas.Bool.cases_lt}
use Rattle.std.proofs.lemmas.List.{append-nil, append_assoc, get_or_append_left, get_or-append-add}
use Rattle.std.proofs.lemmas.List.Elements.{All-append}
use Rattle.patterns.specs.{Tests.max_tests, Least.below}
use Rattle.patterns.specs.Words.{word_at, bit_of, tests_of, AreWords}
use Rattle.patterns.proofs.NumbersBelow.{map-below_more, map-below_same}

-- the values of a function on the numbers below a sum
pub map-below_sum : {X : Type 0} (f : ℕ → X) (m n : ℕ)
    → map f (below (m + n)) ≡ map f (below m) ++ map (λ i. f (m + i)) (below n)
map-below_sum f m zero =
    let none : m + 0 ≡ m = omega arith in
    ap (λ k. map f (below k)) none ∙ sym (append-nil (map f (below m)))
map-below_sum f m (suc n) =
    let more : m + suc n ≡ m + n + 1 = omega arith in
    let last : suc n ≡ n + 1 = omega arith in
    ap (λ k. map f (below k)) more ∙ map-below_more f (m + n)
    ∙ ap (λ front. front ++ f (m + n) ∷ []) (map-below_sum f m n)
    ∙ append_assoc (map f (below m)) (map (λ i. f (m + i)) (below n)) (f (m + n) ∷ [])
    ∙ ap (λ back. map f (below m) ++ back) (sym (map-below_more (λ i. f (m + i)) n))
    ∙ ap (λ k. map f (below m) ++ map (λ i. f (m + i)) (below k)) (sym last)

module _ (width m n : ℕ) (words more : List (List ℕ)) (full : m % 64 ≡ 0)
    (are : AreWords width m words) (are_more : AreWords width n more) where
  abbrev all : List (List ℕ)
  all = words ++ more

  word_before : (block source : ℕ) → block < length words
      → word_at all block source ≡ word_at words block source
  word_before block source h =
      ap (λ row. get_or row source 0) (get_or_append_left words more [] block h)

  word_behind : (block source : ℕ)
      → word_at all (length words + block) source ≡ word_at more block source
  word_behind block source = ap (λ row. get_or row source 0) (get_or-append-add words more block [])

  idle : (block source k : ℕ) → m + n ≤ 64 * block + k → k < 64
      → bit_at (word_at all block source) k ≡ 0
  idle block source k past in_word = ⊎_elim
      (λ (early : block < length words). absurd (omega (arith, are.block_count)))
      (λ (late : length words ≤ block).
      let j = block - length words in
      let at : block ≡ length words + j = omega arith in
      subst (λ b. bit_at (word_at all b source) k ≡ 0) (sym at)
      (ap (λ w. bit_at w k) (word_behind j source)
      ∙ are_more.idle j source k (omega (arith, are.block_count)) in_word))
      (cases_lt block (length words))

  pub AreWords-joined : m + n ≤ max_tests → AreWords width (m + n) all
  AreWords-joined limit = record {
    limit = limit;
    block_count = omega (arith, length-append words more, are.block_count, are_more.block_count);
    each = All-append (λ block. length block ≡ width) words more are.each are_more.each;
    idle = idle;
  }

  bit_before : (test source : ℕ) → test < m → bit_of all test source ≡ bit_of words test source
  bit_before test source h = ap (λ w. bit_at w (test % 64) == 1)
      (word_before (test / 64) source (omega (arith, are.block_count)))

  bit_behind : (test source : ℕ) → bit_of all (m + test) source ≡ bit_of more test source
  bit_behind test source =
      let block : (m + test) / 64 ≡ length words + test / 64 = omega (arith, are.block_count) in
      let lane : (m + test) % 64 ≡ test % 64 = omega arith in
      ap (λ b. bit_at (word_at all b source) ((m + test) % 64) == 1) block
      ∙ ap (λ w. bit_at w ((m + test) % 64) == 1) (word_behind (test / 64) source)
      ∙ ap (λ k. bit_at (word_at more (test / 64) source) k == 1) lane

  pub tests_of-joined : tests_of width (m + n) all ≡ tests_of width m words ++ tests_of width n more
  unfolding tests_of
  tests_of-joined = map-below_sum (λ test. map (λ source. bit_of all test source) (below width)) m n
      ∙ ap (λ tests. tests ++ map
      (λ test. map (λ source. bit_of all (m + test) source) (below width)) (below n))
      (map-below_same _ _ m (λ test h. map-below_same _ _ width
      (λ source _. bit_before test source h)))
      ∙ ap (λ tests. map (λ test. map (λ source. bit_of words test source) (below width)) (below m)
      ++ tests) (map-below_same _ _ n (λ test _. map-below_same _ _ width
      (λ source _. bit_behind test source)))
