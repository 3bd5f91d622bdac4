-- The errors of the rows of a test file.
use Rattle.std.proofs.Common.{◌≡◌, ℕ, ◌<◌, List, [], ◌∷◌, length, get_or, Option, Some, None}
use Rattle.std.proofs.lemmas.Bool.{cond_both, not-false, ltb-true, eqb-true}
use Rattle.patterns.specs.{declared.TestFault.TestFault, Tests.{max_tests, test_fault, test_faults}}
use Rattle.patterns.specs.declared.TestFault.TheVariants as fault
use Rattle.text_lines.{specs.Rows.{Row, rows}, proofs.Public.{first_fault, no_fault_at}}

-- the error of a row, by cases
test_fault_by : (width : ℕ) (at : ℕ × Row) (P : Option TestFault → Type 0)
    → P (Some fault.TooMany) → P (Some (fault.BadByte at.1.line))
    → P (Some (fault.BadWidth at.1.line))
    → (at.0 < max_tests → length at.1.bytes ≡ width → P None) → P (test_fault width at)
test_fault_by width at P many byte wide none = cond_both _ _ _ P (λ _. many) (λ room.
    cond_both _ _ _ P (λ _. byte) (λ bits. cond_both _ _ _ P (λ _. wide) (λ same.
    none (ltb-true _ _ (not-false _ room)) (eqb-true _ _ (not-false _ same)))))

not_memory : (width : ℕ) (at : ℕ × Row) → test_fault width at ≡ Some fault.Memory → ⊥
not_memory width at = test_fault_by width at (λ o. o ≡ Some fault.Memory → ⊥)
    (λ e. cc) (λ e. cc) (λ e. cc) (λ room same e. cc)

test_fault-none : (width : ℕ) (at : ℕ × Row) → test_fault width at ≡ None
    → (at.0 < max_tests) × (length at.1.bytes ≡ width)
test_fault-none width at =
    test_fault_by width at (λ o. o ≡ None → (at.0 < max_tests) × (length at.1.bytes ≡ width))
    (λ e. absurd (cc)) (λ e. absurd (cc)) (λ e. absurd (cc)) (λ room same e. (room, same))

-- missing memory is no error of a file
pub test_faults-not_memory : (text : List ℕ) (width : ℕ) (more : List TestFault)
    → test_faults text width ≡ fault.Memory ∷ more → ⊥
test_faults-not_memory text width more e =
    let found = first_fault (test_fault width) text fault.Memory more e in
    not_memory width found.0 found.1

-- if no row has an error, each is within the limit and has the width
pub rows-no_test_fault : (text : List ℕ) (width : ℕ) → test_faults text width ≡ []
    → (i : ℕ) (d : Row) → i < length (rows text)
    → (i < max_tests) × (length (get_or (rows text) i d).bytes ≡ width)
rows-no_test_fault text width none i d within = test_fault-none width (i, get_or (rows text) i d)
    (no_fault_at (test_fault width) text none i d within)
