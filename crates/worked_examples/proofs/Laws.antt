-- The class law and the law of the table, computed over all tests of small circuits.
use Rattle.std.specs.Prelude.{◌≡◌, ℕ, zero, suc, Bool, true, false, ◌&&◌, List, [], ◌∷◌, ◌++◌, map}
use Rattle.std.specs.{Prelude.{length, refl, Some}, List.list_all}
use Rattle.bench_net.specs.{Statement.Statement, Scan.{observers, sources}}
use Rattle.fault_model.specs.{declared.Model.TheVariants.StuckAt, Fault.{Fault, faults}}
use Rattle.fault_model.specs.Solution.{Test, shows}
use Rattle.fault_model.proofs.Public.{rep, bit_within, same_bit, is_solved}
use Rattle.worked_examples.proofs.Circuits.{c17, and_of_two, inverter_loop, buffer, nor_of_two}
use Rattle.worked_examples.proofs.Circuits.{output_and_inverter, xor_of_one, scan_cell}
use Rattle.worked_examples.proofs.Circuits.{cell_of_itself}

-- all tests of a width
abbrev all_tests : ℕ → List Test
all_tests zero = [] ∷ []
all_tests (suc n) = map (λ t. false ∷ t) (all_tests n) ++ map (λ t. true ∷ t) (all_tests n)

-- the bit that each observer shows
abbrev shown : List Statement → Test → Fault → List Bool
shown c t f = map (shows (Some f) (bit_within 5 c t (Some f))) (observers c)

abbrev all_same : List Bool → List Bool → Bool
all_same [] [] = true
all_same (a ∷ more) (b ∷ others) = same_bit a b && all_same more others
all_same _ _ = false

-- under these tests each fault shows the same as its representative, and the valuation used solves
abbrev shows_as_rep : List Statement → List Test → Bool
shows_as_rep c ts = list_all (λ f.
    list_all (λ t. is_solved c t (Some f) (bit_within 5 c t (Some f)) && all_same (shown c t f)
    (shown c t (rep c f))) ts) (faults StuckAt c)

small : map (λ c. shows_as_rep c (all_tests (length (sources c))))
    (and_of_two ∷ inverter_loop ∷ buffer ∷ nor_of_two ∷ output_and_inverter ∷ xor_of_one ∷ scan_cell
    ∷ cell_of_itself ∷ []) ≡ true ∷ true ∷ true ∷ true ∷ true ∷ true ∷ true ∷ true ∷ []
small = refl

c17_some : shows_as_rep c17
    ((true ∷ true ∷ true ∷ true ∷ true ∷ []) ∷ (false ∷ true ∷ false ∷ true ∷ true ∷ []) ∷
    (true ∷ false ∷ true ∷ false ∷ false ∷ []) ∷ []) ≡ true
c17_some = refl
