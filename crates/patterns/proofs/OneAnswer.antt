-- Each test file is accepted or has an error, with one result.
use Rattle.std.proofs.Common.{◌≡◌, ℕ, ◌<◌, ◌≤◌, ◌⊎◌, ◌==◌, All, Bool, List, [], ◌∷◌, map, length}
use Rattle.std.proofs.Common.{get_or, sym, refl, ap, ◌∙◌, subst, inl, inr, ⊎_elim, arith}
use Rattle.std.proofs.lemmas.{Bool.cases_lt, List.length-map, List.Elements.All-map}
use Rattle.patterns.specs.{declared.TestFault.TestFault, Tests.IsTestRefusal}
use Rattle.patterns.specs.Tests.{TestList, IsTestList, max_tests, test_faults, HasTests}
use Rattle.patterns.proofs.RowFaults.{test_faults-not_memory, rows-no_test_fault}
use Rattle.patterns.specs.declared.TestFault.TheVariants as fault
use Rattle.text_lines.specs.Rows.{Row, rows}

test_faults-refusal : (text : List ℕ) (width : ℕ) (f : TestFault) → IsTestRefusal text width f
    → (more : List TestFault) × (test_faults text width ≡ f ∷ more)
test_faults-refusal text width fault.Memory is = absurd is
test_faults-refusal text width (fault.BadByte line) is = is
test_faults-refusal text width (fault.BadWidth line) is = is
test_faults-refusal text width fault.TooMany is = is

pub refusal-test_faults : (text : List ℕ) (width : ℕ) (f : TestFault) (more : List TestFault)
    → test_faults text width ≡ f ∷ more → IsTestRefusal text width f
refusal-test_faults text width fault.Memory more is = test_faults-not_memory text width more is
refusal-test_faults text width (fault.BadByte line) more is = (more, is)
refusal-test_faults text width (fault.BadWidth line) more is = (more, is)
refusal-test_faults text width fault.TooMany more is = (more, is)

tests_or_refusal : (text : List ℕ) (width : ℕ) (faults : List TestFault)
    → test_faults text width ≡ faults
    → ((t : TestList) × HasTests text width t) ⊎ ((f : TestFault) × IsTestRefusal text width f)
tests_or_refusal text width [] is = inl (
  record { width = width; tests = map (λ row. map (λ b. b == 49) row.bytes) (rows text) },
  (is, refl, refl),
)
tests_or_refusal text width (f ∷ more) is = inr (f, refusal-test_faults text width f more is)

-- a file has its tests or an error
pub tests_cases : (text : List ℕ) (width : ℕ)
    → ((t : TestList) × HasTests text width t) ⊎ ((f : TestFault) × IsTestRefusal text width f)
tests_cases text width = tests_or_refusal text width (test_faults text width) refl

pub tests_same : (text : List ℕ) (width : ℕ) (s t : TestList) → HasTests text width s
    → HasTests text width t → s ≡ t
tests_same text width s t has_s has_t =
    ap (λ w. record { width = w; tests = s.tests }) (has_s.1 ∙ sym has_t.1)
    ∙ ap (λ tests. record { width = t.width; tests = tests }) (has_s.2 ∙ sym has_t.2)

pub tests_not_refused : (text : List ℕ) (width : ℕ) (t : TestList) (f : TestFault)
    → HasTests text width t → IsTestRefusal text width f → ⊥
tests_not_refused text width t f has refused =
    let faults = test_faults-refusal text width f refused in
    let clash : f ∷ faults.0 ≡ [] = sym faults.1 ∙ has.0 in cc

pub test_refusal_same : (text : List ℕ) (width : ℕ) (f g : TestFault) → IsTestRefusal text width f
    → IsTestRefusal text width g → f ≡ g
test_refusal_same text width f g is_f is_g =
    let first = test_faults-refusal text width f is_f in
    let second = test_faults-refusal text width g is_g in
    let same : f ∷ first.0 ≡ g ∷ second.0 = sym first.1 ∙ second.1 in cc

abbrev bits : Row → List Bool
bits row = map (λ b. b == 49) row.bytes

rows-test_limit : (text : List ℕ) (width : ℕ) → test_faults text width ≡ []
    → length (rows text) ≤ max_tests
rows-test_limit text width none = ⊎_elim (λ (past : max_tests < length (rows text)). let last =
    rows-no_test_fault text width none max_tests (record { line = 0; bytes = [] }) past in
    absurd (omega (arith, last.0))) (λ (within : length (rows text) ≤ max_tests). within)
    (cases_lt max_tests (length (rows text)))

-- the tests of a text have their width and are within the limit
pub has_tests_list : (text : List ℕ) (width : ℕ) (t : TestList) → HasTests text width t
    → IsTestList t
has_tests_list text width t has =
    record {
      each = subst (All (λ test. length test ≡ t.width)) (sym has.2)
          (All-map (λ test. length test ≡ t.width) bits (rows text)
          (λ k d within. length-map (get_or (rows text) k d).bytes (λ b. b == 49)
          ∙ (rows-no_test_fault text width has.0 k d within).1 ∙ sym has.1));
      count = omega (
        arith,
        ap length has.2,
        length-map (rows text) bits,
        rows-test_limit text width has.0,
      );
    }
