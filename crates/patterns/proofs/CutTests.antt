-- The tests of a file whose first rows have been read are theirs and those of its other rows.
use Rattle.std.proofs.Common.{◌≡◌, ℕ, ◌+◌, ◌==◌, ◌⊎◌, Bool, List, [], ◌∷◌, ◌++◌, map, length, sym}
use Rattle.std.proofs.Common.{refl, ap, ◌∙◌, inl, inr, arith}
use Rattle.std.specs.List.{filter_map, enumerate_from}
use Rattle.std.proofs.lemmas.List.{length-map, map-append, Elements.filter_map-append}
use Rattle.text_lines.{specs.Rows.{Row, rows}, proofs.Public.enumerate_from-append}
use Rattle.patterns.{specs.declared.TestFault.TestFault, proofs.OneAnswer.refusal-test_faults}
use Rattle.patterns.specs.Tests.{TestList, HasTests, IsTestRefusal, test_fault, test_faults}
use Rattle.patterns.specs.LaterRows.{HasTestsAfter, IsRefusalAfter, errors_after}
use Rattle.patterns.specs.declared.TestFault.TheVariants as fault

faults-append : (width : ℕ) (before after : List Row)
    → filter_map (test_fault width) (enumerate_from 0 before) ≡ []
    → filter_map (test_fault width) (enumerate_from 0 (before ++ after))
    ≡ filter_map (test_fault width) (enumerate_from (length before) after)
faults-append width before after none =
    let number : 0 + length before ≡ length before = omega arith in
    ap (filter_map (test_fault width)) (enumerate_from-append 0 before after)
    ∙ filter_map-append (test_fault width) (enumerate_from 0 before)
    (enumerate_from (0 + length before) after) ∙ ap (λ faults. faults
    ++ filter_map (test_fault width) (enumerate_from (0 + length before) after)) none
    ∙ ap (λ n. filter_map (test_fault width) (enumerate_from n after)) number

abbrev pub bits : Row → List Bool
bits row = map (λ b. b == 49) row.bytes

-- as many tests as rows
pub count_is : (t : TestList) (before : List Row) → t.tests ≡ map bits before
    → length t.tests ≡ length before
count_is t before is = ap length is ∙ length-map before bits

-- the errors of a file whose first rows have tests are the errors of its other rows
faults_left : (text : List ℕ) (width : ℕ) (t : TestList) (before left : List Row)
    → rows text ≡ before ++ left
    → filter_map (test_fault width) (enumerate_from 0 before) ≡ [] → t.width ≡ width
    → t.tests ≡ map bits before → test_faults text width ≡ errors_after t left
faults_left text width t before left whole none same is =
    ap (λ all. filter_map (test_fault width) (enumerate_from 0 all)) whole
    ∙ faults-append width before left none
    ∙ ap (λ n. filter_map (test_fault width) (enumerate_from n left)) (sym (count_is t before is))
    ∙ ap (λ w. filter_map (test_fault w) (enumerate_from (length t.tests) left)) (sym same)

refusal_behind : (before : TestList) (left : List Row) (f : TestFault)
    → IsRefusalAfter before left f → (more : List TestFault) × (errors_after before left ≡ f ∷ more)
refusal_behind before left fault.Memory is = absurd is
refusal_behind before left (fault.BadByte line) is = is
refusal_behind before left (fault.BadWidth line) is = is
refusal_behind before left fault.TooMany is = is

module _ (text front : List ℕ) (width : ℕ) (t : TestList) (left : List Row)
    (has : HasTests front width t) (whole : rows text ≡ rows front ++ left) where
  pub HasTests-behind : (all : TestList) → HasTestsAfter t left all → HasTests text width all
  HasTests-behind all behind = (
    faults_left text width t (rows front) left whole has.0 has.1 has.2 ∙ behind.0,
    ap (λ l. l.width) behind.1 ∙ has.1,
    ap (λ l. l.tests) behind.1 ∙ ap (λ tests. tests ++ map bits left) has.2
        ∙ sym (map-append bits (rows front) left) ∙ sym (ap (map bits) whole),
  )

  pub IsTestRefusal-behind : (f : TestFault) → IsRefusalAfter t left f → IsTestRefusal text width f
  IsTestRefusal-behind f refused =
      let found = refusal_behind t left f refused in
      refusal-test_faults text width f found.0
      (faults_left text width t (rows front) left whole has.0 has.1 has.2 ∙ found.1)

  pub refused-behind : (f : TestFault) → (f ≡ fault.Memory) ⊎ IsRefusalAfter t left f
      → (f ≡ fault.Memory) ⊎ IsTestRefusal text width f
  refused-behind f (inl memory) = inl memory
  refused-behind f (inr refused) = inr (IsTestRefusal-behind f refused)

-- a text that holds nothing has no tests
pub HasTests-none : (width : ℕ) → HasTests [] width (record { width = width; tests = [] })
HasTests-none width = (refl, refl, refl)
