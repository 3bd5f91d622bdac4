-- The tests of a job that detect each class, in words of 128 tests.
use Rattle.std.specs.Prelude.{◌≡◌, ◌==◌, ℕ, ◌/◌, ◌%◌, All, Bool, List, [], length, map, not}
use Rattle.std.specs.Prelude.{slice_index_or}
use Rattle.std.specs.List.{list_any}
use Rattle.std.specs.declared.vec.Vec.{Vec}
use Rattle.flat_circuit.specs.BlockSpans.{groups}
use Rattle.flat_circuit.specs.Words.{lane}

-- the view that contracts have of detections: for each class the words of the groups, and the
-- number of tests
pub record DetectionTable : Type 0 where
  pub words : List (List ℕ)
  pub tests : ℕ

-- the words of each class, which stand at its position
abbrev pub words_of : {Z : Type 0} → List ℕ → List (Vec ℕ Z) → List (List ℕ)
words_of positions rows =
    map (λ position. slice_index_or (map (λ row. row.items) rows) position []) positions

-- whether a test, the second number, detects a class
abbrev pub detects_by : DetectionTable → ℕ → ℕ → Bool
detects_by table class test =
    lane (slice_index_or (slice_index_or table.words class []) (test / 128) 0) (test % 128)

-- whether some test detects a class
abbrev pub is_detected : DetectionTable → ℕ → Bool
is_detected table class =
    list_any (λ word. not (word == 0)) (slice_index_or table.words class [])

-- each class has a word for each group of the tests
abbrev pub HasGroups : DetectionTable → Type 0
HasGroups table = All (λ row. length row ≡ groups table.tests) table.words
