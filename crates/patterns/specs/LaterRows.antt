-- The tests of rows that follow the rows of earlier tests.
use Rattle.std.specs.Prelude.{◌≡◌, ◌==◌, Bool, List, [], ◌∷◌, ◌++◌, map, filter_map, length}
use Rattle.std.specs.List.{enumerate_from}
use Rattle.text_lines.specs.Rows.{Row}
use Rattle.patterns.specs.declared.TestFault.{TestFault}
use Rattle.patterns.specs.declared.TestFault.TheVariants.{Memory}
use Rattle.patterns.specs.Tests.{TestList, test_fault}

-- with more tests after the others
abbrev pub with_tests : TestList → List (List Bool) → TestList
with_tests t more = record { width = t.width; tests = t.tests ++ more }

-- the errors of rows that follow earlier tests, from the top
abbrev pub errors_after : TestList → List Row → List TestFault
errors_after before rows =
    filter_map (test_fault before.width) (enumerate_from (length before.tests) rows)

-- the tests of rows, `1` for true
abbrev pub tests_of_rows : List Row → List (List Bool)
tests_of_rows rows = map (λ row. map (λ b. b == 49) row.bytes) rows

-- these are earlier tests and then the tests of rows, none of which has an error
abbrev pub HasTestsAfter : TestList → List Row → TestList → Type 0
HasTestsAfter before rows t =
    (errors_after before rows ≡ []) × (t ≡ with_tests before (tests_of_rows rows))

-- the first row with an error after earlier tests has this error
abbrev pub IsRefusalAfter : TestList → List Row → TestFault → Type 0
IsRefusalAfter before rows Memory = ⊥
IsRefusalAfter before rows fault =
    (more : List TestFault) × (errors_after before rows ≡ fault ∷ more)
