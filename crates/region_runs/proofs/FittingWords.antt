-- The words of a window's blocks fit its number of tests.
use Rattle.std.proofs.Common.{◌≡◌, ◌⊎◌, ◌<◌, ◌≤◌, ◌+◌, ◌*◌, ◌-◌, ◌/◌, ◌%◌, ◌^◌, ◌∙◌, inl, inr, ℕ}
use Rattle.std.proofs.Common.{List, [], sym, ap, subst, arith, length, get_or, min, false}
use Rattle.std.proofs.lemmas.{Bool.cases_lt, List.get_or_past, Nat.pow_pos}
use Rattle.std.proofs.lemmas.Nat.Bits.{bit_at_above, bit_at_cat_low, same_from_bits_below}
use Rattle.std.{proofs.Math.Nat.{div-add-mod, min-eq_left, min-eq_right, mod-lt}, specs.Int.bit_at}
use Rattle.fault_model.specs.Solution.{Test}
use Rattle.patterns.specs.Making.{HasIdleBit, IsWordsRefusal, word_of}
use Rattle.patterns.specs.Tests.{IsTestList, TestList, as_number, bit, blocks, size_of}
use Rattle.patterns.specs.declared.WordsFault.{WordsFault}
use Rattle.patterns.specs.declared.WordsFault.TheVariants as words_fault
use Rattle.region_runs.specs.Windows.{AreWordsFrom}

-- a word without a bit from some lane on is below the power of that lane
small_word : (word lanes : ℕ) → word < 2 ^ 64
    → ((lane : ℕ) → lanes ≤ lane → lane < 64 → bit_at word lane ≡ 0) → word < 2 ^ lanes
small_word word lanes fits none = subst (λ n. n < 2 ^ lanes) (sym same) low
  where
    low : word % 2 ^ lanes < 2 ^ lanes
    low = mod-lt word (pow_pos lanes)

    whole : (word / 2 ^ lanes) * 2 ^ lanes + word % 2 ^ lanes ≡ word
    whole = omega (arith, div-add-mod word (2 ^ lanes))

    below : word % 2 ^ lanes < 2 ^ 64
    below = omega (arith, whole, fits)

    each : (lane : ℕ) → lane < 64 → (lane < lanes) ⊎ (lanes ≤ lane)
        → bit_at word lane ≡ bit_at (word % 2 ^ lanes) lane
    each lane lt (inl x) = ap (λ n. bit_at n lane) (sym whole)
        ∙ bit_at_cat_low (word / 2 ^ lanes) lanes (word % 2 ^ lanes) lane x
    each lane lt (inr x) = none lane x lt ∙ sym (bit_at_above (word % 2 ^ lanes) lanes lane low x)

    same : word ≡ word % 2 ^ lanes
    same = same_from_bits_below 64 word (word % 2 ^ lanes) fits below
        (λ lane lt. each lane lt (cases_lt lane lanes))

-- a test past the last has no bit
past_last : (tests : List Test) (k source : ℕ) → length tests ≤ k
    → as_number (bit tests k source) ≡ 0
past_last tests k source le =
    ap (λ (test : Test). as_number (get_or test source false)) (get_or_past tests k [] le)

module _ (tests : TestList) (from end count most : ℕ) (words : List ℕ) (list : IsTestList tests)
    (are : AreWordsFrom tests from (end - from) words) (fits : (i : ℕ) → get_or words i 0 < 2 ^ 64)
    (cut : most ≡ min (length tests.tests) (64 * end)) (is : count ≡ most - 64 * from)
    (before : from < end) (within : end ≤ blocks (length tests.tests))
  where
    abbrev Cut : Type 0
    Cut = ((length tests.tests < 64 * end) × (count ≡ length tests.tests - 64 * from))
        ⊎ (count ≡ 64 * end - 64 * from)

    cut_off : Cut
    cut_off = go (cases_lt (length tests.tests) (64 * end))
      where
        go : (length tests.tests < 64 * end) ⊎ (64 * end ≤ length tests.tests) → Cut
        go (inl x) =
            let all : most ≡ length tests.tests = cut ∙ min-eq_left (omega (arith, x)) in
            inl (x, omega (arith, is, all))
        go (inr x) =
            let all : most ≡ 64 * end = cut ∙ min-eq_right x in inr (omega (arith, is, all))

    block_count : Cut → blocks count ≡ end - from
    block_count (inl x) =
        let short = x.0 in
        let what = x.1 in
        omega (arith, short, what, before, within)
    block_count (inr x) = omega (arith, x, before)

    few : Cut → count ≤ length tests.tests
    few (inl x) = let what = x.1 in omega (arith, what)
    few (inr x) = omega (arith, x, within, before)

    -- no lane from the end of a block's tests on
    no_lane : Cut → (block source lane : ℕ) → block < end - from → source < tests.width
        → size_of count block ≤ lane → lane < 64
        → bit_at (word_of tests.width words block source) lane ≡ 0
    no_lane (inl x) block source lane lt wide le low =
        let what = x.1 in
        are.each block source lt wide lane low
        ∙ past_last tests.tests (64 * (from + block) + lane) source
        (omega (arith, what, le, low, lt))
    no_lane (inr x) block source lane lt wide le low = absurd (omega (arith, x, le, low, lt))

    none_idle : (source : ℕ) → source < tests.width → HasIdleBit tests.width count words source → ⊥
    none_idle source wide (block, lt, large) =
        let inside : block < end - from = omega (arith, lt, block_count cut_off) in
        let small = small_word (word_of tests.width words block source) (size_of count block)
        (fits (tests.width * block + source))
        (λ lane le low. no_lane cut_off block source lane inside wide le low) in
        omega (arith, small, large)

    -- so they are never refused
    pub never_refused : (f : WordsFault) → IsWordsRefusal tests.width count words f → ⊥
    never_refused words_fault.TooMany h =
        let most = list.count in omega (arith, h, most, few cut_off)
    never_refused words_fault.BadCount h =
        h.1 (are.long ∙ ap (λ n. tests.width * n) (sym (block_count cut_off)))
    never_refused (words_fault.IdleBits source) h = none_idle source h.2.0 h.2.1
    never_refused words_fault.Memory h = h
