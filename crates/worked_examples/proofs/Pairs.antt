-- Launch and capture pairs at the worked circuits: only the second of a pair detects, by the plain
-- program and at the relation.
use Rattle.std.{proofs.Common.{◌*◌, ◌+◌, arith}, specs.Prelude.{replicate, Option, Some, None}}
use Rattle.std.specs.Prelude.{◌≡◌, ℕ, true, false, List, [], ◌∷◌, ◌++◌, map, length, codes, refl}
use Rattle.std.specs.Fmt.{digits}
use Rattle.bench_net.specs.Statement.{Statement}
use Rattle.fault_model.specs.declared.Line.TheVariants as line
use Rattle.fault_model.specs.declared.Model.TheVariants.{Transition, TransitionPairs}
use Rattle.fault_model.specs.{Fault.faults, Solution.Test, Collapse.representatives}
use Rattle.fault_model.specs.Detection.{DetectsAt, IsSecondOfPair}
use Rattle.fault_model.proofs.Public.{class_of, detects, first_within}
use Rattle.worked_examples.proofs.{GivenBits.has_bit, Circuits.{c17, buffer, output_and_inverter}}
use Rattle.worked_examples.proofs.Listings.{text, tests}
use Rattle.report.specs.{Report.report, declared.contents.Lines.TheVariants.Omitted}

abbrev firsts : List Statement → List Test → List (Option ℕ)
firsts c ts = map (first_within 4 c ts) (faults TransitionPairs c)

-- in a row the tests 1 and 2 launch a rise; of the pairs neither launches anything
abbrev two_pairs : List Test
two_pairs = tests (codes "0" ∷ codes "0" ∷ codes "1" ∷ codes "1" ∷ [])

in_a_row : report Transition buffer
    (map (first_within 4 buffer two_pairs) (faults Transition buffer)) Omitted
    ≡ text (codes "2 of 4 (50.00%)" ∷ [])
unfolding digits
in_a_row = refl

in_pairs : report TransitionPairs buffer (firsts buffer two_pairs) Omitted
    ≡ text (codes "0 of 4 (0.00%)" ∷ [])
unfolding digits
in_pairs = refl

-- one pair has the result of a run of two tests in a row
one_pair : firsts buffer (tests (codes "0" ∷ codes "1" ∷ [])) ≡ Some 1 ∷ None ∷ Some 1 ∷ None ∷ []
one_pair = refl

-- a last test without a second detects nothing
odd_last : firsts buffer (tests (codes "0" ∷ codes "1" ∷ codes "0" ∷ []))
    ≡ Some 1 ∷ None ∷ Some 1 ∷ None ∷ []
odd_last = refl

-- the first pair of the second block
second_block : firsts buffer (replicate 64 (false ∷ []) ++ (true ∷ []) ∷ (false ∷ []) ∷ [])
    ≡ None ∷ Some 65 ∷ None ∷ Some 65 ∷ []
second_block = refl

-- three pairs and a test without a second
c17_firsts :
    firsts c17 (tests (codes "11111" ∷ codes "00000" ∷ codes "10111" ∷ codes "01011" ∷ codes
    "00110" ∷ codes "11010" ∷ codes "11111" ∷ []))
    ≡ None ∷ None ∷ Some 3 ∷ Some 1 ∷ None ∷ Some 3 ∷ None ∷ None ∷ None ∷ Some
    3 ∷ None ∷ None ∷ None ∷ Some 1 ∷ Some 1 ∷ None ∷ Some 3 ∷ None ∷ Some
    3 ∷ None ∷ None ∷ None ∷ None ∷ Some 3 ∷ None ∷ Some 3 ∷ None ∷ Some 5 ∷ None ∷ None ∷ Some
    5 ∷ Some 1 ∷ Some 3 ∷ None ∷ []
c17_firsts = refl

-- the classes are the classes of transition faults
output_and_inverter_classes : map (class_of output_and_inverter)
    (faults TransitionPairs output_and_inverter) ≡ 0 ∷ 1 ∷ 5 ∷ 4 ∷ 2 ∷ 3 ∷ 4 ∷ 5 ∷ []
output_and_inverter_classes = refl

c17_class_count : length (representatives TransitionPairs c17) ≡ 34
c17_class_count = refl

-- a pin, slow to rise, at the relation: test 1 after test 0
pin_slow : DetectsAt output_and_inverter ((false ∷ []) ∷ (true ∷ []) ∷ [])
    (record { model = TransitionPairs; line = line.Pin 1 0; stuck = false }) 1
pin_slow = (
  true ∷ [],
  refl,
  detects 4 output_and_inverter (true ∷ [])
      (record { model = TransitionPairs; line = line.Pin 1 0; stuck = false }) refl refl refl,
  (
    (0, refl),
    (
      false ∷ [],
      refl,
      has_bit 4 output_and_inverter (false ∷ []) (line.Pin 1 0) false (codes "a") refl refl refl,
    ),
  ),
)

-- the first of a pair detects nothing
none_at_first_of_pair : (ts : List Test)
    → ¬ DetectsAt buffer ts (record { model = TransitionPairs; line = line.Stem 0; stuck = false })
    2
none_at_first_of_pair ts d = let second : IsSecondOfPair 2 = d.3.0 in
    let e : 2 ≡ 2 * second.0 + 1 = second.1 in omega (arith, e)
