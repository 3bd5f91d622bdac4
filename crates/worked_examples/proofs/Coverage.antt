-- Undetected faults, the coverage of classes and curves of an AND gate and of C17, by the plain
-- program.
use Rattle.std.specs.Prelude.{◌≡◌, ℕ, true, List, [], ◌∷◌, map, Option, Some, None, codes, refl}
use Rattle.std.specs.Fmt.{digits}
use Rattle.fault_model.specs.{declared.Model.TheVariants.StuckAt, Fault.faults, Collapse.Collapsed}
use Rattle.fault_model.proofs.Public.{first_within}
use Rattle.report.specs.{declared.contents.Lines.TheVariants.Undetected, Report.whole_report}
use Rattle.report.specs.Curve.{curve, curve_text}
use Rattle.worked_examples.proofs.{Circuits.{and_of_two, c17}, Listings.{tests, text}}

-- the first tests by the plain program
abbrev firsts : List (List ℕ) → List (Option ℕ)
firsts rows = map (first_within 4 and_of_two (tests rows)) (faults StuckAt and_of_two)

-- the classes by hand: a, b and z stuck at 0 are one class, with z's as its representative
abbrev classes : Collapsed
classes = record { class_of = 2 ∷ 0 ∷ 2 ∷ 1 ∷ 2 ∷ 3 ∷ []; representative = 1 ∷ 3 ∷ 4 ∷ 5 ∷ [] }

undetected_and_classes : whole_report StuckAt and_of_two classes
    (firsts (codes "00" ∷ codes "01" ∷ codes "11" ∷ [])) (record {
      lines = Undetected;
      classes = true;
    }) ≡ text (codes "stem b sa1 none" ∷ codes "5 of 6 (83.33%)" ∷ codes
    "3 of 4 classes (75.00%)" ∷ [])
unfolding digits
undetected_and_classes = refl

-- test 2 is test 1 again
abbrev four_firsts : List (Option ℕ)
four_firsts = firsts (codes "00" ∷ codes "01" ∷ codes "01" ∷ codes "11" ∷ [])

curve_of_and : curve_text (curve 4 four_firsts) four_firsts
    ≡ text (codes "0 1 16.66" ∷ codes "1 2 33.33" ∷ codes "3 5 83.33" ∷ codes
    "5 of 6 (83.33%)" ∷ [])
unfolding digits
curve_of_and = refl

-- for C17: its classes are the classes of its listing
abbrev c17_firsts : List (List ℕ) → List (Option ℕ)
c17_firsts rows = map (first_within 4 c17 (tests rows)) (faults StuckAt c17)

abbrev c17_classes : Collapsed
c17_classes = record {
  class_of =
      8 ∷ 0 ∷ 14 ∷ 1 ∷ 2 ∷ 3 ∷ 8 ∷ 4 ∷ 10 ∷ 5 ∷ 10 ∷ 6 ∷ 17 ∷ 7 ∷ 19 ∷ 8 ∷ 9 ∷ 10 ∷ 14 ∷ 11 ∷ 17 ∷
      12 ∷ 13 ∷ 14 ∷ 19 ∷ 15 ∷ 21 ∷ 16 ∷ 21 ∷ 17 ∷ 18 ∷ 19 ∷ 20 ∷ 21 ∷ [];
  representative =
      1 ∷ 3 ∷ 4 ∷ 5 ∷ 7 ∷ 9 ∷ 11 ∷ 13 ∷ 15 ∷ 16 ∷ 17 ∷ 19 ∷ 21 ∷ 22 ∷ 23 ∷ 25 ∷ 27 ∷ 29 ∷ 30 ∷
      31 ∷ 32 ∷ 33 ∷ [];
}

c17_undetected_and_classes : whole_report StuckAt c17 c17_classes (c17_firsts (codes "11111" ∷ []))
    (record { lines = Undetected; classes = true }) ≡ text (
    codes "stem G1 sa1 none" ∷ codes "stem G2 sa0 none" ∷ codes "stem G2 sa1 none" ∷
    codes "stem G3 sa1 none" ∷ codes "pin G10 2 sa1 none" ∷ codes "pin G11 1 sa1 none" ∷
    codes "stem G6 sa1 none" ∷ codes "stem G7 sa0 none" ∷ codes "stem G7 sa1 none" ∷
    codes "stem G10 sa0 none" ∷ codes "stem G11 sa0 none" ∷ codes "pin G16 2 sa0 none" ∷
    codes "pin G19 1 sa0 none" ∷ codes "stem G16 sa1 none" ∷ codes "pin G22 2 sa0 none" ∷
    codes "pin G22 2 sa1 none" ∷ codes "pin G23 1 sa1 none" ∷ codes "stem G19 sa1 none" ∷
    codes "stem G22 sa1 none" ∷ codes "stem G23 sa0 none" ∷ codes "14 of 34 (41.17%)" ∷
    codes "8 of 22 classes (36.36%)" ∷ [])
unfolding digits
c17_undetected_and_classes = refl

-- test 1 is test 0 again, and test 3 is the first for no fault
abbrev seven : List (Option ℕ)
seven = Some 0 ∷ Some 5 ∷ Some 4 ∷ Some 2 ∷ Some 0 ∷ Some 4 ∷ Some 0 ∷ None ∷ Some 0 ∷ Some 4 ∷
    Some 0 ∷ None ∷ None ∷ Some 2 ∷ Some 2 ∷ Some 0 ∷ Some 4 ∷ Some 0 ∷ Some 4 ∷ Some 0 ∷ None ∷
    Some 0 ∷ Some 0 ∷ Some 4 ∷ Some 2 ∷ Some 4 ∷ Some 0 ∷ Some 6 ∷ Some 0 ∷ None ∷ Some 0 ∷
    Some 2 ∷ Some 4 ∷ Some 0 ∷ []

seven_firsts : c17_firsts (codes "11111" ∷ codes "11111" ∷ codes "00000" ∷ codes "10111" ∷
    codes "01011" ∷ codes "00110" ∷ codes "11010" ∷ []) ≡ seven
seven_firsts = refl

curve_of_c17 : curve_text (curve 7 seven) seven
    ≡ text (codes "0 14 41.17" ∷ codes "2 19 55.88" ∷ codes "4 27 79.41" ∷
    codes "5 28 82.35" ∷ codes "6 29 85.29" ∷ codes "29 of 34 (85.29%)" ∷ [])
unfolding digits
curve_of_c17 = refl
