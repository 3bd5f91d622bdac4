-- Rows that stand one line further on are read as the same tests.
use Rattle.std.proofs.Common.{◌≡◌, ℕ, ◌+◌, ◌∙◌, ◌==◌, inl, inr, not, List, [], ◌∷◌, ap, filter}
use Rattle.std.proofs.{Common.{length, map, refl, sym}, lemmas.Bool.cases_Bool}
use Rattle.std.specs.Prelude.{Option, Some, None, nat_lt, filter_map}
use Rattle.std.specs.List.{cons_option, enumerate_from, list_all}
use Rattle.text_lines.specs.{Lines.lines, Rows.{Row, content, is_bit, rows, rows_from}}
use Rattle.patterns.specs.Tests.{HasTests, TestList, max_tests, test_fault}
use Rattle.patterns.specs.declared.TestFault.{TestFault}

-- rows with the same bytes, whatever their lines
abbrev AreAlike : List Row → List Row → Type 0
AreAlike [] [] = Unit {0}
AreAlike [] (s ∷ ss) = ⊥
AreAlike (r ∷ rs) [] = ⊥
AreAlike (r ∷ rs) (s ∷ ss) = (r.bytes ≡ s.bytes) × AreAlike rs ss

-- the rows of lines, the first of which has this number
abbrev rows_of : ℕ → List (List ℕ) → List Row
rows_of first ls = filter (λ row. not (length row.bytes == 0))
    (map (λ at. record { line = at.0; bytes = content at.1 }) (enumerate_from first ls))

alike : (first second : ℕ) (ls : List (List ℕ)) → AreAlike (rows_of first ls) (rows_of second ls)
alike first second [] = tt
alike first second (l ∷ ls) = elim (cases_Bool (not (length (content l) == 0))) [
  | inl on ↦ rw on (refl, alike (first + 1) (second + 1) ls)
  | inr off ↦ rw off (alike (first + 1) (second + 1) ls)
]

-- a row that is a test is one on any line
fault_alike : (width place line other : ℕ) (bytes : List ℕ)
    → test_fault width (place, record { line = line; bytes = bytes }) ≡ None
    → test_fault width (place, record { line = other; bytes = bytes }) ≡ None
fault_alike width place line other bytes is = elim (cases_Bool (nat_lt place max_tests)) [
  | inr off ↦ (let bad = rw off at is in cc)
  | inl on ↦ elim (cases_Bool (list_all is_bit bytes)) [
    | inr off ↦ (let bad = rw (on, off) at is in cc)
    | inl bits ↦ elim (cases_Bool (length bytes == width)) [
      | inr off ↦ (let bad = rw (on, bits, off) at is in cc)
      | inl same ↦ rw (on, bits, same) refl
    ]
  ]
]

-- no option of a list gives an element
none_kept : (o : Option TestFault) (faults : List TestFault) → cons_option o faults ≡ []
    → (o ≡ None) × (faults ≡ [])
none_kept None faults is = (refl, is)
none_kept (Some f) faults is = let bad : f ∷ faults ≡ [] = is in cc

faults_alike : (width place : ℕ) (rs ss : List Row) → AreAlike rs ss
    → filter_map (test_fault width) (enumerate_from place rs) ≡ []
    → filter_map (test_fault width) (enumerate_from place ss) ≡ []
faults_alike width place [] [] are none = refl
faults_alike width place [] (s ∷ ss) are none = absurd are
faults_alike width place (r ∷ rs) [] are none = absurd are
faults_alike width place (r ∷ rs) (s ∷ ss) are none =
    let parts = none_kept (test_fault width (place, r)) _ none in
    let own : test_fault width (place, record { line = r.line; bytes = s.bytes }) ≡ None =
    ap (λ bytes. test_fault width (place, record { line = r.line; bytes = bytes })) (sym are.0)
    ∙ parts.0 in
    ap (λ o. cons_option o (filter_map (test_fault width) (enumerate_from (place + 1) ss)))
    (fault_alike width place r.line s.line s.bytes own)
    ∙ faults_alike width (place + 1) rs ss are.1 parts.1

bits_alike : (rs ss : List Row) → AreAlike rs ss
    → map (λ (row : Row). map (λ b. b == 49) row.bytes) rs
    ≡ map (λ (row : Row). map (λ b. b == 49) row.bytes) ss
bits_alike [] [] are = refl
bits_alike [] (s ∷ ss) are = absurd are
bits_alike (r ∷ rs) [] are = absurd are
bits_alike (r ∷ rs) (s ∷ ss) are =
    ap (λ bytes. map (λ b. b == 49) bytes ∷ map (λ (row : Row). map (λ b. b == 49) row.bytes) rs)
    are.0 ∙ ap (λ rest. map (λ b. b == 49) s.bytes ∷ rest) (bits_alike rs ss are.1)

pub tests_behind : (text longer : List ℕ) (width : ℕ) (t : TestList)
    → rows longer ≡ rows_from 2 text → HasTests text width t → HasTests longer width t
tests_behind text longer width t same is =
    let are : AreAlike (rows text) (rows_from 2 text) = alike 1 2 (lines text) in (
      ap (λ rs. filter_map (test_fault width) (enumerate_from 0 rs)) same
          ∙ faults_alike width 0 (rows text) (rows_from 2 text) are is.0,
      is.1,
      is.2 ∙ (bits_alike (rows text) (rows_from 2 text) are
          ∙ ap (map (λ (row : Row). map (λ b. b == 49) row.bytes)) (sym same)),
    )
