-- The listings and reports of the worked circuits under both fault models, by the plain programs.
use Rattle.std.specs.Prelude.{◌≡◌, ◌==◌, ℕ, true, false, List, [], ◌∷◌, ◌++◌, map, length, codes}
use Rattle.std.specs.{Prelude.{refl, flat_map, replicate}, Fmt.digits}
use Rattle.fault_model.specs.declared.Model.{Model, TheVariants.{StuckAt, Transition}}
use Rattle.fault_model.specs.{Fault.faults, Solution.Test, Collapse.representatives}
use Rattle.fault_model.proofs.Public.{class_of, first_within}
use Rattle.bench_net.specs.Statement.{Statement}
use Rattle.report.specs.declared.contents.Lines.{Lines, TheVariants.{All, Omitted}}
use Rattle.report.specs.Report.{listing, report}
use Rattle.worked_examples.proofs.Circuits.{c17, and_of_two, inverter_loop, eleven_inputs, buffer}
use Rattle.worked_examples.proofs.Circuits.{nor_of_two, output_and_inverter, xor_of_one, scan_cell}
use Rattle.worked_examples.proofs.Circuits.{cell_of_itself}

-- lines as one text
abbrev pub text : List (List ℕ) → List ℕ
text ls = flat_map (λ l. l ++ 10 ∷ []) ls

-- the listing of a circuit by the plain program
abbrev the_listing : Model → List Statement → List ℕ
the_listing m c = listing m c (map (class_of c) (faults m c)) (length (representatives m c))

-- the tests of rows of digits
abbrev pub tests : List (List ℕ) → List Test
tests ls = map (map (λ b. b == 49)) ls

-- the report of a circuit by the plain program, gates followed back four deep
abbrev the_report : Model → List Statement → List Test → Lines → List ℕ
the_report m c ts lines = report m c (map (first_within 4 c ts) (faults m c)) lines

fault_count-c17 : length (faults StuckAt c17) ≡ 34
fault_count-c17 = refl

class_count-c17 : length (representatives StuckAt c17) ≡ 22
class_count-c17 = refl

c17_listing : the_listing StuckAt c17
    ≡ text (codes "stem G1 sa0 class 8" ∷ codes "stem G1 sa1 class 0" ∷ codes
    "stem G2 sa0 class 14" ∷ codes "stem G2 sa1 class 1" ∷ codes "stem G3 sa0 class 2" ∷ codes
    "stem G3 sa1 class 3" ∷ codes "pin G10 2 sa0 class 8" ∷ codes "pin G10 2 sa1 class 4" ∷ codes
    "pin G11 1 sa0 class 10" ∷ codes "pin G11 1 sa1 class 5" ∷ codes "stem G6 sa0 class 10" ∷ codes
    "stem G6 sa1 class 6" ∷ codes "stem G7 sa0 class 17" ∷ codes "stem G7 sa1 class 7" ∷ codes
    "stem G10 sa0 class 19" ∷ codes "stem G10 sa1 class 8" ∷ codes "stem G11 sa0 class 9" ∷ codes
    "stem G11 sa1 class 10" ∷ codes "pin G16 2 sa0 class 14" ∷ codes
    "pin G16 2 sa1 class 11" ∷ codes "pin G19 1 sa0 class 17" ∷ codes
    "pin G19 1 sa1 class 12" ∷ codes "stem G16 sa0 class 13" ∷ codes "stem G16 sa1 class 14" ∷ codes
    "pin G22 2 sa0 class 19" ∷ codes "pin G22 2 sa1 class 15" ∷ codes
    "pin G23 1 sa0 class 21" ∷ codes "pin G23 1 sa1 class 16" ∷ codes
    "stem G19 sa0 class 21" ∷ codes "stem G19 sa1 class 17" ∷ codes "stem G22 sa0 class 18" ∷ codes
    "stem G22 sa1 class 19" ∷ codes "stem G23 sa0 class 20" ∷ codes "stem G23 sa1 class 21" ∷ codes
    "34 faults in 22 classes" ∷ [])
unfolding digits
c17_listing = refl

c17_report : the_report StuckAt c17 (tests (codes "11111" ∷ [])) All
    ≡ text (codes "stem G1 sa0 0" ∷ codes "stem G1 sa1 none" ∷ codes "stem G2 sa0 none" ∷ codes
    "stem G2 sa1 none" ∷ codes "stem G3 sa0 0" ∷ codes "stem G3 sa1 none" ∷ codes
    "pin G10 2 sa0 0" ∷ codes "pin G10 2 sa1 none" ∷ codes "pin G11 1 sa0 0" ∷ codes
    "pin G11 1 sa1 none" ∷ codes "stem G6 sa0 0" ∷ codes "stem G6 sa1 none" ∷ codes
    "stem G7 sa0 none" ∷ codes "stem G7 sa1 none" ∷ codes "stem G10 sa0 none" ∷ codes
    "stem G10 sa1 0" ∷ codes "stem G11 sa0 none" ∷ codes "stem G11 sa1 0" ∷ codes
    "pin G16 2 sa0 none" ∷ codes "pin G16 2 sa1 0" ∷ codes "pin G19 1 sa0 none" ∷ codes
    "pin G19 1 sa1 0" ∷ codes "stem G16 sa0 0" ∷ codes "stem G16 sa1 none" ∷ codes
    "pin G22 2 sa0 none" ∷ codes "pin G22 2 sa1 none" ∷ codes "pin G23 1 sa0 0" ∷ codes
    "pin G23 1 sa1 none" ∷ codes "stem G19 sa0 0" ∷ codes "stem G19 sa1 none" ∷ codes
    "stem G22 sa0 0" ∷ codes "stem G22 sa1 none" ∷ codes "stem G23 sa0 none" ∷ codes
    "stem G23 sa1 0" ∷ codes "14 of 34 (41.17%)" ∷ [])
unfolding digits
c17_report = refl

c17_coverage : the_report StuckAt c17 (tests (codes "11111" ∷ [])) Omitted
    ≡ text (codes "14 of 34 (41.17%)" ∷ [])
unfolding digits
c17_coverage = refl

c17_no_tests : the_report StuckAt c17 [] Omitted ≡ text (codes "0 of 34 (0.00%)" ∷ [])
unfolding digits
c17_no_tests = refl

and_of_two_report : the_report StuckAt and_of_two
    (tests (codes "00" ∷ codes "01" ∷ codes "10" ∷ codes "11" ∷ [])) All
    ≡ text (codes "stem a sa0 3" ∷ codes "stem a sa1 1" ∷ codes "stem b sa0 3" ∷ codes
    "stem b sa1 2" ∷ codes "stem z sa0 3" ∷ codes "stem z sa1 0" ∷ codes "6 of 6 (100.00%)" ∷ [])
unfolding digits
and_of_two_report = refl

and_of_two_classes : length (representatives StuckAt and_of_two) ≡ 4
and_of_two_classes = refl

inverter_loop_report : the_report StuckAt inverter_loop (tests (codes "0" ∷ [])) All
    ≡ text (codes "stem q sa0 none" ∷ codes "stem q sa1 0" ∷ codes "stem d sa0 0" ∷ codes
    "stem d sa1 none" ∷ codes "2 of 4 (50.00%)" ∷ [])
unfolding digits
inverter_loop_report = refl

eleven_inputs_report : the_report StuckAt eleven_inputs
    (tests (codes "00000000000" ∷ codes "11111111111" ∷ [])) Omitted
    ≡ text (codes "2 of 22 (9.09%)" ∷ [])
unfolding digits
eleven_inputs_report = refl

buffer_report : the_report StuckAt buffer (replicate 64 (false ∷ [])) All
    ≡ text (codes "stem a sa0 none" ∷ codes "stem a sa1 0" ∷ codes "stem z sa0 none" ∷ codes
    "stem z sa1 0" ∷ codes "2 of 4 (50.00%)" ∷ [])
unfolding digits
buffer_report = refl

buffer_longer : the_report StuckAt buffer (replicate 64 (false ∷ []) ++ (true ∷ []) ∷ []) All
    ≡ text (codes "stem a sa0 64" ∷ codes "stem a sa1 0" ∷ codes "stem z sa0 64" ∷ codes
    "stem z sa1 0" ∷ codes "4 of 4 (100.00%)" ∷ [])
unfolding digits
buffer_longer = refl

nor_of_two_report : the_report StuckAt nor_of_two (replicate 65 (true ∷ true ∷ [])) All
    ≡ text (codes "stem a sa0 none" ∷ codes "stem a sa1 none" ∷ codes "stem b sa0 none" ∷ codes
    "stem b sa1 none" ∷ codes "stem z sa0 none" ∷ codes "stem z sa1 0" ∷ codes
    "1 of 6 (16.66%)" ∷ [])
unfolding digits
nor_of_two_report = refl

output_and_inverter_listing : the_listing StuckAt output_and_inverter
    ≡ text (codes "stem a sa0 class 0" ∷ codes "stem a sa1 class 1" ∷ codes
    "pin z 1 sa0 class 5" ∷ codes "pin z 1 sa1 class 4" ∷ codes "out 1 sa0 class 2" ∷ codes
    "out 1 sa1 class 3" ∷ codes "stem z sa0 class 4" ∷ codes "stem z sa1 class 5" ∷ codes
    "8 faults in 6 classes" ∷ [])
unfolding digits
output_and_inverter_listing = refl

output_and_inverter_report : the_report StuckAt output_and_inverter (tests (codes "0" ∷ [])) Omitted
    ≡ text (codes "4 of 8 (50.00%)" ∷ [])
unfolding digits
output_and_inverter_report = refl

xor_of_one_report : the_report StuckAt xor_of_one (tests (codes "0" ∷ codes "1" ∷ [])) All
    ≡ text (codes "stem a sa0 none" ∷ codes "stem a sa1 none" ∷ codes "pin z 1 sa0 1" ∷ codes
    "pin z 1 sa1 0" ∷ codes "pin z 2 sa0 1" ∷ codes "pin z 2 sa1 0" ∷ codes
    "stem z sa0 none" ∷ codes "stem z sa1 0" ∷ codes "5 of 8 (62.50%)" ∷ [])
unfolding digits
xor_of_one_report = refl

xor_of_one_classes : length (representatives StuckAt xor_of_one) ≡ 8
xor_of_one_classes = refl

scan_cell_report : the_report StuckAt scan_cell (tests (codes "11" ∷ [])) All
    ≡ text (codes "stem a sa0 0" ∷ codes "stem a sa1 none" ∷ codes "stem q sa0 0" ∷ codes
    "stem q sa1 none" ∷ codes "stem y sa0 0" ∷ codes "stem y sa1 none" ∷ codes
    "data q sa0 0" ∷ codes "data q sa1 none" ∷ codes "out 1 sa0 0" ∷ codes "out 1 sa1 none" ∷ codes
    "5 of 10 (50.00%)" ∷ [])
unfolding digits
scan_cell_report = refl

scan_cell_classes : length (representatives StuckAt scan_cell) ≡ 8
scan_cell_classes = refl

cell_of_itself_faults : length (faults StuckAt cell_of_itself) ≡ 2
cell_of_itself_faults = refl

odd_text_listing : the_listing StuckAt buffer
    ≡ text (codes "stem a sa0 class 0" ∷ codes "stem a sa1 class 1" ∷ codes
    "stem z sa0 class 0" ∷ codes "stem z sa1 class 1" ∷ codes "4 faults in 2 classes" ∷ [])
unfolding digits
odd_text_listing = refl

-- transition faults
and_of_two_transitions : the_report Transition and_of_two
    (tests (codes "00" ∷ codes "01" ∷ codes "10" ∷ codes "11" ∷ [])) All ≡ text (
    codes "stem a str none" ∷ codes "stem a stf none" ∷ codes "stem b str 3" ∷
    codes "stem b stf 2" ∷ codes "stem z str 3" ∷ codes "stem z stf none" ∷
    codes "3 of 6 (50.00%)" ∷ [])
unfolding digits
and_of_two_transitions = refl

buffer_transitions :
    the_report Transition buffer (tests (codes "0" ∷ codes "1" ∷ codes "0" ∷ [])) All ≡ text (
    codes "stem a str 1" ∷ codes "stem a stf 2" ∷ codes "stem z str 1" ∷
    codes "stem z stf 2" ∷ codes "4 of 4 (100.00%)" ∷ [])
unfolding digits
buffer_transitions = refl

buffer_transitions_over_blocks :
    the_report Transition buffer (replicate 64 (false ∷ []) ++ (true ∷ []) ∷ []) All ≡ text (
    codes "stem a str 64" ∷ codes "stem a stf none" ∷ codes "stem z str 64" ∷
    codes "stem z stf none" ∷ codes "2 of 4 (50.00%)" ∷ [])
unfolding digits
buffer_transitions_over_blocks = refl

output_and_inverter_transitions :
    the_report Transition output_and_inverter (tests (codes "0" ∷ codes "1" ∷ [])) Omitted ≡ text (
    codes "4 of 8 (50.00%)" ∷ [])
unfolding digits
output_and_inverter_transitions = refl

output_and_inverter_transition_listing : the_listing Transition output_and_inverter ≡ text (
    codes "stem a str class 0" ∷ codes "stem a stf class 1" ∷ codes "pin z 1 str class 5" ∷
    codes "pin z 1 stf class 4" ∷ codes "out 1 str class 2" ∷ codes "out 1 stf class 3" ∷
    codes "stem z str class 4" ∷ codes "stem z stf class 5" ∷ codes "8 faults in 6 classes" ∷ [])
unfolding digits
output_and_inverter_transition_listing = refl

c17_transitions : the_report Transition c17 (tests (codes "11111" ∷ [])) Omitted ≡ text (
    codes "0 of 34 (0.00%)" ∷ [])
unfolding digits
c17_transitions = refl
