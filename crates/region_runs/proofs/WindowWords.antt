-- The tests of a window are made of the words of its blocks.
use Rattle.std.proofs.Common.{◌≡◌, ◌⊎◌, ◌<◌, ◌≤◌, ◌+◌, ◌*◌, ◌-◌, ◌/◌, ◌%◌, ◌++◌, ◌∙◌, inl, inr, ℕ}
use Rattle.std.proofs.Common.{List, [], ◌∷◌, Some, refl, sym, ap, subst, arith, length, get_or}
use Rattle.std.proofs.{Common.{true, false, length-append, min, suc}, lemmas.Bool.cases_lt}
use Rattle.std.proofs.lemmas.{List.same_lists, Option.{slice_get-get_or, slice_get_within}}
use Rattle.std.proofs.Math.{ListN.get_or-append, Seq.get_or-append_seam}
use Rattle.std.proofs.Math.Nat.{div-add-mod, min-eq_left, min-eq_right, mod-lt, mul-le-mul_left}
use Rattle.std.specs.Prelude.{Bool, slice_get}
use Rattle.fault_model.specs.Solution.{Test}
use Rattle.patterns.specs.Making.{IsMadeOf, word_of}
use Rattle.patterns.specs.Tests.{IsTestList, IsWord, TestList, as_number, bit, blocks}
use Rattle.region_runs.specs.declared.windows.Window.{Window}
use Rattle.region_runs.specs.Windows.{AreWordsFrom, GoesOnFrom, IsWindowOf}

-- words of the first sources of a block were added
pub record Adds (tests : TestList) (block : ℕ) (old now : List ℕ) (source : ℕ) : Type 0 where
  pub long : length now ≡ length old + source
  pub same : (i : ℕ) → i < length old → get_or now i 0 ≡ get_or old i 0
  pub new : (s : ℕ) → s < source → IsWord tests.tests block s (get_or now (length old + s) 0)

pub adds_none : (tests : TestList) (block : ℕ) (old : List ℕ) → Adds tests block old old 0
adds_none tests block old = record {
  long = omega arith;
  same = λ i lt. refl;
  new = λ s lt. absurd (omega (arith, lt));
}

pub adds_one : (tests : TestList) (block : ℕ) (old now more : List ℕ) (source word : ℕ)
    → Adds tests block old now source → IsWord tests.tests block source word
    → more ≡ now ++ word ∷ [] → Adds tests block old more (source + 1)
adds_one tests block old now more source word was is e =
    subst (λ l. Adds tests block old l (source + 1)) (sym e) (record {
      long = omega (arith, length-append now (word ∷ []), was.long);
      same = λ i lt.
          get_or-append now (word ∷ []) 0 i (omega (arith, was.long, lt)) ∙ was.same i lt;
      new = λ s lt. go s lt (cases_lt s source);
    })
  where
    go : (s : ℕ) → s < source + 1 → (s < source) ⊎ (source ≤ s)
        → IsWord tests.tests block s (get_or (now ++ word ∷ []) (length old + s) 0)
    go s lt (inl x) = subst (IsWord tests.tests block s)
        (sym (get_or-append now (word ∷ []) 0 (length old + s) (omega (arith, was.long, x))))
        (was.new s x)
    go s lt (inr x) =
        let last : s ≡ source = omega (arith, lt, x) in
        let place : length now ≡ length old + s = omega (arith, was.long, last) in
        subst (λ i. IsWord tests.tests block s (get_or (now ++ word ∷ []) i 0)) place
        (subst (IsWord tests.tests block s) (sym (get_or-append_seam now word [] 0))
        (subst (λ k. IsWord tests.tests block k word) (sym last) is))

-- a word of a block stands before those of the next
place_within : (width count block source : ℕ) → block < count → source < width
    → width * block + source < width * count
place_within width count block source lt low =
    let up : width * (block + 1) ≤ width * count = mul-le-mul_left width (omega (arith, lt)) in
    let next : width * (block + 1) ≡ width * block + width = omega arith in
    omega (arith, up, next, low)

pub adds_all : (tests : TestList) (block : ℕ) (old now : List ℕ) (from count : ℕ)
    → Adds tests block old now tests.width → AreWordsFrom tests from count old
    → block ≡ from + count → AreWordsFrom tests from (count + 1) now
adds_all tests block old now from count was are is = record {
  long =
      let next : tests.width * (count + 1) ≡ tests.width * count + tests.width = omega arith in
      omega (arith, was.long, are.long, next);
  each = λ b s lt low. go b s lt low (cases_lt b count);
}
  where
    go : (b s : ℕ) → b < count + 1 → s < tests.width → (b < count) ⊎ (count ≤ b)
        → IsWord tests.tests (from + b) s (word_of tests.width now b s)
    go b s lt low (inl x) =
        let within = place_within tests.width count b s x low in
        subst (IsWord tests.tests (from + b) s)
        (sym (was.same (tests.width * b + s) (omega (arith, within, are.long))))
        (are.each b s x low)
    go b s lt low (inr x) =
        let last : b ≡ count = omega (arith, lt, x) in
        let place : length old + s ≡ tests.width * b + s =
        omega (arith, are.long, ap (λ n. tests.width * n) last) in
        let here : block ≡ from + b = omega (arith, is, last) in
        subst (λ i. IsWord tests.tests (from + b) s (get_or now i 0)) place
        (subst (λ n. IsWord tests.tests n s (get_or now (length old + s) 0)) here (was.new s low))

-- a bit has one number
one_bit : (a b : Bool) → as_number a ≡ as_number b → a ≡ b
one_bit true true e = refl
one_bit false false e = refl
one_bit true false e = absurd (omega (arith, e))
one_bit false true e = absurd (omega (arith, e))

-- tests that are made of the words of some blocks are a window
pub window_of : (tests some : TestList) (from end count : ℕ) (words : List ℕ)
    → IsTestList tests → IsTestList some → AreWordsFrom tests from (end - from) words
    → IsMadeOf tests.width count words some → 64 * from + count ≤ length tests.tests
    → 64 * from + count ≤ 64 * end
    → (64 * from + count ≡ length tests.tests) ⊎ (64 * from + count ≡ 64 * end)
    → IsWindowOf tests.tests (64 * from) (64 * end) some.tests
window_of tests some from end count words list own are made short low full = record {
  each = λ k lt. same k (omega (arith, lt, made.same_count));
  all = λ t test lt at. reach t lt (slice_get_within tests.tests t test at) full;
  within = omega (arith, low, made.same_count);
}
  where
    reach : (t : ℕ) → t < 64 * end → t < length tests.tests
        → (64 * from + count ≡ length tests.tests) ⊎ (64 * from + count ≡ 64 * end)
        → t < 64 * from + length some.tests
    reach t lt within (inl e) = omega (arith, within, e, made.same_count)
    reach t lt within (inr e) = omega (arith, lt, e, made.same_count)

    same_bit : (k s : ℕ) → k < count → s < tests.width
        → bit some.tests k s ≡ bit tests.tests (64 * from + k) s
    same_bit k s lt wide =
        let whole : 64 * (k / 64) + k % 64 ≡ k = div-add-mod k 64 in
        let rest : k % 64 < 64 = mod-lt k (omega arith) in
        let block : k / 64 < blocks count = omega (arith, lt, whole, rest) in
        let there : k / 64 < end - from = omega (arith, lt, whole, low) in
        let mine = made.each (k / 64) s block wide (k % 64) rest in
        let theirs = are.each (k / 64) s there wide (k % 64) rest in
        let place : 64 * (from + k / 64) + k % 64 ≡ 64 * from + k = omega (arith, whole) in
        ap (λ n. bit some.tests n s) (sym whole)
        ∙ one_bit (bit some.tests (64 * (k / 64) + k % 64) s)
        (bit tests.tests (64 * (from + k / 64) + k % 64) s) (sym mine ∙ theirs)
        ∙ ap (λ n. bit tests.tests n s) place

    same : (k : ℕ) → k < count → slice_get some.tests k ≡ slice_get tests.tests (64 * from + k)
    same k lt =
        let here : k < length some.tests = omega (arith, lt, made.same_count) in
        let there : 64 * from + k < length tests.tests = omega (arith, lt, short) in
        let mine = own.each k [] here in
        let theirs = list.each (64 * from + k) [] there in
        let equal : get_or some.tests k [] ≡ get_or tests.tests (64 * from + k) [] =
        same_lists (get_or some.tests k []) (get_or tests.tests (64 * from + k) [])
        (mine ∙ made.same_width ∙ sym theirs)
        (λ s d low. let wide : s < tests.width = omega (arith, low, mine, made.same_width) in
        read (get_or some.tests k []) s d (omega (arith, low)) ∙ same_bit k s lt wide
        ∙ sym (read (get_or tests.tests (64 * from + k) []) s d (omega (arith, wide, theirs)))) in
        slice_get-get_or some.tests k [] here ∙ ap Some equal
        ∙ sym (slice_get-get_or tests.tests (64 * from + k) [] there)
      where
        read : (xs : Test) (s : ℕ) (d : Bool) → s < length xs → get_or xs s d ≡ get_or xs s false
        read xs s d low =
            let q = sym (slice_get-get_or xs s d low) ∙ slice_get-get_or xs s false low in cc

-- no words are those of no block
pub words_none : (tests : TestList) (from count : ℕ) (words : List ℕ) → words ≡ [] → count ≡ 0
    → AreWordsFrom tests from count words
words_none tests from count words e none = record {
  long = ap (λ (l : List ℕ). length l) e
      ∙ (let q : tests.width * count ≡ 0 = ap (λ n. tests.width * n) none ∙ omega arith in sym q);
  each = λ block source lt. absurd (omega (arith, none, lt));
}

-- a window begins before its end, and no later than with its first new block
pub begins_before : (blocks first : ℕ) (w : Window) → GoesOnFrom blocks first w
    → (w.from < w.end) × (w.from ≤ first) × ((w.from ≡ 0) ⊎ (w.from < first))
begins_before blocks first w on = go on.before
  where
    go : ((w.from ≡ 0) × (first ≡ 0)) ⊎ (suc w.from ≡ first)
        → (w.from < w.end) × (w.from ≤ first) × ((w.from ≡ 0) ⊎ (w.from < first))
    go (inl x) = (omega (arith, x.0, x.1, on.some), omega (arith, x.0, x.1), inl x.0)
    go (inr x) = (omega (arith, x, on.some), omega (arith, x), inr (omega (arith, x)))

-- the tests that are cut off at the end of the window or of the list
pub window_cut : (tests some : TestList) (from end count most : ℕ) (words : List ℕ)
    → IsTestList tests → IsTestList some → AreWordsFrom tests from (end - from) words
    → IsMadeOf tests.width count words some → most ≡ min (length tests.tests) (64 * end)
    → count ≡ most - 64 * from → from < end → end ≤ blocks (length tests.tests)
    → IsWindowOf tests.tests (64 * from) (64 * end) some.tests
window_cut tests some from end count most words list own are made cut is before within =
    go (cases_lt (length tests.tests) (64 * end))
  where
    low : 64 * from < length tests.tests
    low = omega (arith, before, within)

    go : (length tests.tests < 64 * end) ⊎ (64 * end ≤ length tests.tests)
        → IsWindowOf tests.tests (64 * from) (64 * end) some.tests
    go (inl x) =
        let all : most ≡ length tests.tests = cut ∙ min-eq_left (omega (arith, x)) in
        window_of tests some from end count words list own are made
        (omega (arith, all, is, low)) (omega (arith, all, is, low, x))
        (inl (omega (arith, all, is, low)))
    go (inr x) =
        let all : most ≡ 64 * end = cut ∙ min-eq_right x in
        window_of tests some from end count words list own are made
        (omega (arith, all, is, before, x)) (omega (arith, all, is, before))
        (inr (omega (arith, all, is, before)))
