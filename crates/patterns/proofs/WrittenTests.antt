-- The text of tests is read as the same tests.
use Rattle.std.proofs.Common.{◌≡◌, ℕ, suc, ◌+◌, ◌<◌, ◌≤◌, ◌==◌, All, Bool, true, false, not, List}
use Rattle.std.proofs.Common.{[], ◌∷◌, ◌++◌, map, length, None, sym, refl, ap, ◌∙◌, arith}
use Rattle.std.proofs.{Common.append_assoc, lemmas.Bool.{cond-false, eq-eqb, lt-ltb}}
use Rattle.std.specs.List.{filter_map, cons_option, enumerate_from, list_all}
use Rattle.std.proofs.lemmas.List.{length-map}
use Rattle.text_lines.specs.Rows.{Row, rows_from, is_bit}
use Rattle.text_lines.proofs.Public.{rows_from_first, before_end, after_end, row_content}
use Rattle.patterns.specs.Tests.{TestList, IsTestList, HasTests, max_tests, test_fault}
use Rattle.patterns.specs.Making.{digit, test_text}

-- the digits of a row
abbrev digits : List Bool → List ℕ
digits row = map digit row

-- its digits are bits
all_bits : (row : List Bool) → list_all is_bit (digits row) ≡ true
all_bits [] = refl
all_bits (true ∷ row) = all_bits row
all_bits (false ∷ row) = all_bits row

-- the rows of the text of tests
abbrev written_rows : ℕ → List (List Bool) → List Row
written_rows line [] = []
written_rows line (test ∷ tests) =
    record { line = line; bytes = digits test } ∷ written_rows (line + 1) tests

rows-written : (line : ℕ) (tests : List (List Bool)) → All (λ test. 0 < length test) tests
    → rows_from line (test_text tests) ≡ written_rows line tests
rows-written line [] some = refl
rows-written line (test ∷ tests) some =
    let rest = test_text tests in
    let first : 0 < length test = some 0 [] (omega arith) in
    let later : All (λ t. 0 < length t) tests = λ k d h. some (suc k) d (omega (arith, h)) in
    let row = digits test in
    let bits = all_bits test in
    ap (rows_from line) (append_assoc row (10 ∷ []) rest)
    ∙ rows_from_first line (row ++ 10 ∷ rest) row rest row
    (before_end row rest bits) (after_end row rest bits) (row_content row bits)
    (omega (arith, first, length-map test digit))
    ∙ ap (λ rows. record { line = line; bytes = digits test } ∷ rows)
    (rows-written (line + 1) tests later)

-- none of them has an error
no_fault : (width place line : ℕ) (test : List Bool) → place < max_tests → length test ≡ width
    → test_fault width (place, record { line = line; bytes = digits test }) ≡ None
no_fault width place line test room same = cond-false _ _ _ (ap not (lt-ltb place max_tests room))
    ∙ cond-false _ _ _ (ap not (all_bits test))
    ∙ cond-false _ _ _ (ap not (eq-eqb (length (digits test)) width (length-map test digit ∙ same)))

no_faults : (width place line : ℕ) (tests : List (List Bool)) → place + length tests ≤ max_tests
    → All (λ test. length test ≡ width) tests
    → filter_map (test_fault width) (enumerate_from place (written_rows line tests)) ≡ []
no_faults width place line [] few same = refl
no_faults width place line (test ∷ tests) few same =
    ap (λ o. cons_option o (filter_map (test_fault width)
    (enumerate_from (place + 1) (written_rows (line + 1) tests))))
    (no_fault width place line test (omega (arith, few)) (same 0 [] (omega arith)))
    ∙ no_faults width (place + 1) (line + 1) tests (omega (arith, few))
    (λ k d h. same (suc k) d (omega (arith, h)))

-- the bits of the rows are the bits of the tests
bits_back : (row : List Bool) → map (λ b. b == 49) (digits row) ≡ row
bits_back [] = refl
bits_back (true ∷ row) = ap (λ bits. true ∷ bits) (bits_back row)
bits_back (false ∷ row) = ap (λ bits. false ∷ bits) (bits_back row)

tests_back : (line : ℕ) (tests : List (List Bool))
    → map (λ (row : Row). map (λ b. b == 49) row.bytes) (written_rows line tests) ≡ tests
tests_back line [] = refl
tests_back line (test ∷ tests) =
    ap (λ first. first ∷ map (λ (row : Row). map (λ b. b == 49) row.bytes)
    (written_rows (line + 1) tests)) (bits_back test)
    ∙ ap (λ rest. test ∷ rest) (tests_back (line + 1) tests)

pub HasTests-written : (t : TestList) → IsTestList t → 1 ≤ t.width
    → HasTests (test_text t.tests) t.width t
HasTests-written t is some =
    let rows =
    rows-written 1 t.tests (λ k d h. let same = is.each k d h in omega (arith, same, some)) in (
      ap (λ rows'. filter_map (test_fault t.width) (enumerate_from 0 rows')) rows
          ∙ no_faults t.width 0 1 t.tests (omega (arith, is.count)) is.each,
      refl,
      sym (ap (map (λ (row : Row). map (λ b. b == 49) row.bytes)) rows ∙ tests_back 1 t.tests),
    )
