-- Transition faults at the worked circuits: classes and first tests by the plain program, and the
-- relations.
use Rattle.std.specs.Prelude.{◌≡◌, ◌==◌, ℕ, true, false, List, [], ◌∷◌, ◌++◌, map, length, codes}
use Rattle.std.specs.Prelude.{refl, replicate, Option, Some, None}
use Rattle.bench_net.specs.Statement.{Statement}
use Rattle.fault_model.specs.declared.Line.TheVariants as line
use Rattle.fault_model.specs.{declared.Model.TheVariants.Transition, Fault.faults, Solution.Test}
use Rattle.fault_model.specs.{Collapse.representatives, Detection.{DetectsAt, name_on}}
use Rattle.fault_model.proofs.Public.{class_of, detects, first_within}
use Rattle.worked_examples.proofs.GivenBits.{has_bit}
use Rattle.worked_examples.proofs.Circuits.{c17, and_of_two, buffer, output_and_inverter, scan_cell}

abbrev rows : List (List ℕ) → List Test
rows ls = map (map (λ b. b == 49)) ls

abbrev firsts : List Statement → List Test → List (Option ℕ)
firsts c tests = map (first_within 4 c tests) (faults Transition c)

abbrev classes : List Statement → List ℕ
classes c = map (class_of c) (faults Transition c)

-- no gate of two inputs merges
and_of_two_classes : classes and_of_two ≡ 0 ∷ 1 ∷ 2 ∷ 3 ∷ 4 ∷ 5 ∷ []
and_of_two_classes = refl

and_of_two_firsts : firsts and_of_two
    (rows (codes "00" ∷ codes "01" ∷ codes "10" ∷ codes "11" ∷ []))
    ≡ None ∷ None ∷ Some 3 ∷ Some 2 ∷ Some 3 ∷ None ∷ []
and_of_two_firsts = refl

buffer_classes : classes buffer ≡ 0 ∷ 1 ∷ 0 ∷ 1 ∷ []
buffer_classes = refl

buffer_firsts : firsts buffer (rows (codes "0" ∷ codes "1" ∷ codes "0" ∷ []))
    ≡ Some 1 ∷ Some 2 ∷ Some 1 ∷ Some 2 ∷ []
buffer_firsts = refl

-- over the end of a block
buffer_longer : firsts buffer (replicate 64 (false ∷ []) ++ (true ∷ []) ∷ [])
    ≡ Some 64 ∷ None ∷ Some 64 ∷ None ∷ []
buffer_longer = refl

-- over an inverter a slow rise goes with a slow fall
output_and_inverter_classes : classes output_and_inverter ≡ 0 ∷ 1 ∷ 5 ∷ 4 ∷ 2 ∷ 3 ∷ 4 ∷ 5 ∷ []
output_and_inverter_classes = refl

output_and_inverter_firsts : firsts output_and_inverter (rows (codes "0" ∷ codes "1" ∷ []))
    ≡ Some 1 ∷ None ∷ Some 1 ∷ None ∷ Some 1 ∷ None ∷ None ∷ Some 1 ∷ []
output_and_inverter_firsts = refl

c17_faults : length (faults Transition c17) ≡ 34
c17_faults = refl

c17_class_count : length (representatives Transition c17) ≡ 34
c17_class_count = refl

c17_firsts : firsts c17 (rows (codes "11111" ∷ [])) ≡ replicate 34 None
c17_firsts = refl

-- what the four kinds of line carry
carried_stem : name_on c17 (line.Stem 5) ≡ Some (codes "G10")
carried_stem = refl

carried_pin : name_on c17 (line.Pin 9 1) ≡ Some (codes "G16")
carried_pin = refl

carried_data : name_on scan_cell (line.Data 0) ≡ Some (codes "y")
carried_data = refl

carried_out : name_on output_and_inverter (line.Out 0) ≡ Some (codes "a")
carried_out = refl

-- a pin, slow to rise, at the relation: test 1 after test 0
pin_slow : DetectsAt output_and_inverter ((false ∷ []) ∷ (true ∷ []) ∷ [])
    (record { model = Transition; line = line.Pin 1 0; stuck = false }) 1
pin_slow = (
  true ∷ [],
  refl,
  detects 4 output_and_inverter (true ∷ [])
      (record { model = Transition; line = line.Pin 1 0; stuck = false }) refl refl refl,
  (
    false ∷ [],
    refl,
    has_bit 4 output_and_inverter (false ∷ []) (line.Pin 1 0) false (codes "a") refl refl refl,
  ),
)

-- the first test detects none
none_at_first : (tests : List Test)
    → ¬ DetectsAt buffer tests (record { model = Transition; line = line.Stem 0; stuck = false }) 0
none_at_first tests d = d.3
