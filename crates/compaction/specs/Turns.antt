-- The marks of the last tests, while tests are taken from the last on, some at a turn.
use Rattle.std.specs.Prelude.{◌≡◌, ◌⊎◌, ◌+◌, ◌<◌, ◌≤◌, ℕ, Bool, true, false, List, Option, Some}
use Rattle.std.specs.Prelude.{None, length, slice_get, slice_index_or}
use Rattle.block_sim.specs.Parts.{Parts}
use Rattle.region_sim.specs.Goals.{AreHits}
use Rattle.compaction.specs.Marks.{IsLastOfClass}

-- no test from a number on detects the class
abbrev pub NoneFrom : Parts → ℕ → ℕ → Type 0
NoneFrom job class from = (hits : ℕ → Bool) → AreHits job class hits
    → (t : ℕ) → from ≤ t → hits t ≡ false

-- The tests from a number on have been taken. Each marked test is the last one of a class. Each
-- class of the list is open: none of these tests detects it. Each other class has its last test
-- marked.
pub record AreLastFrom (job : Parts) (from : ℕ) (classes : List ℕ) (marks : List Bool) :
    Type 0 where
  pub count : length marks ≡ length job.tests.tests
  pub some : (t : ℕ) → slice_index_or marks t false ≡ true
      → (class : ℕ) × IsLastOfClass job class (Some t)
  pub few : length classes ≤ length job.classes.representative
  pub within : (k class : ℕ) → slice_get classes k ≡ Some class
      → class < length job.classes.representative
  pub none : (k class : ℕ) → slice_get classes k ≡ Some class → NoneFrom job class from
  pub all : (class : ℕ) → class < length job.classes.representative
      → ((k : ℕ) × (slice_get classes k ≡ Some class))
      ⊎ ((t : ℕ) × IsLastOfClass job class (Some t) × (slice_index_or marks t false ≡ true))

-- where the turn after one ends that begins with this test: after the test, or with no test
abbrev pub IsNextEnd : ℕ → ℕ → Type 0
IsNextEnd start next = ((start ≡ 0) × (next ≡ 0)) ⊎ ((0 < start) × (next ≡ start + 1))

-- the tests of the first n lasts, numbered from a test on, are marked beside those that were
pub record HaveMarked (start : ℕ) (lasts : List (Option ℕ)) (n : ℕ) (old new : List Bool) :
    Type 0 where
  pub count : length new ≡ length old
  pub marked : (t : ℕ) → slice_index_or new t false ≡ true → (slice_index_or old t false ≡ true)
      ⊎ ((j : ℕ) × (k : ℕ) × (slice_get lasts j ≡ Some (Some k)) × (t ≡ start + k))
  pub kept : (t : ℕ) → slice_index_or old t false ≡ true → slice_index_or new t false ≡ true
  pub all : (j k : ℕ) → j < n → slice_get lasts j ≡ Some (Some k) → start + k < length old
      → slice_index_or new (start + k) false ≡ true

-- those of the first n classes that have no last test
pub record AreLeftOpen (classes : List ℕ) (lasts : List (Option ℕ)) (n : ℕ) (left : List ℕ) :
    Type 0 where
  pub few : length left ≤ n
  pub each : (k class : ℕ) → slice_get left k ≡ Some class
      → (j : ℕ) × (slice_get classes j ≡ Some class) × (slice_get lasts j ≡ Some None)
  pub all : (j class : ℕ) → j < n → slice_get classes j ≡ Some class → slice_get lasts j ≡ Some None
      → (k : ℕ) × (slice_get left k ≡ Some class)
