-- The tests of a round that are kept, and the classes that are left.
use Rattle.std.specs.Prelude.{◌≡◌, ◌≢◌, ◌⊎◌, ◌<◌, ◌≤◌, ◌+◌, ℕ, Bool, true, List, length, Option}
use Rattle.std.specs.Prelude.{Some, None, false, slice_get, slice_index}
use Rattle.fault_model.specs.declared.Model.{Model}
use Rattle.fault_model.specs.declared.Model.TheVariants.{StuckAt, Transition, TransitionPairs}

-- whether a test counts with the one before it
abbrev pub in_pairs : Model → Bool
in_pairs StuckAt = false
in_pairs Transition = true
in_pairs TransitionPairs = true

-- the test of this number is marked
abbrev pub IsMarked : List Bool → ℕ → Type 0
IsMarked marks t = slice_get marks t ≡ Some true

-- some test is marked
abbrev pub HasMark : List Bool → Type 0
HasMark marks = (t : ℕ) × IsMarked marks t

-- some test is marked if the word of some block isn't 0
abbrev pub AreNoted : List ℕ → List Bool → Type 0
AreNoted words marks = (block word : ℕ) → slice_get words block ≡ Some word → word ≢ 0
    → HasMark marks

-- this test is one of the first tests of classes
abbrev pub HasFirst : List (Option ℕ) → ℕ → Type 0
HasFirst firsts t = (k : ℕ) × (slice_get firsts k ≡ Some (Some t))

-- Only tests that are the first of some class are marked. At least one is marked if some class has
-- a first test.
pub record AreNeeded (firsts : List (Option ℕ)) (marks : List Bool) : Type 0 where
  pub first : (t : ℕ) → IsMarked marks t → HasFirst firsts t
  pub some : (t : ℕ) → HasFirst firsts t → HasMark marks

-- a test is wanted if it is marked, or if tests count in pairs and the next test is marked
abbrev pub IsWanted : List Bool → Bool → ℕ → Type 0
IsWanted marks pairs t = IsMarked marks t ⊎ ((pairs ≡ true) × IsMarked marks (t + 1))

-- the first wanted test
pub record IsFirstWanted (marks : List Bool) (pairs : Bool) (t : ℕ) : Type 0 where
  pub wanted : IsWanted marks pairs t
  pub first : (earlier : ℕ) → earlier < t → ¬ IsWanted marks pairs earlier

-- each test of a list is also one of another
abbrev pub AreAmong : List (List Bool) → List (List Bool) → Type 0
AreAmong some tests = (k : ℕ) (test : List Bool) → slice_get some k ≡ Some test
    → (j : ℕ) × (slice_get tests j ≡ Some test)

-- The wanted tests of a list are kept after the old ones, as far as there is room: all old tests
-- stay, and no test is new if none is wanted. If there is no old test, and room for two, the first
-- wanted test comes first. The test after it in the list comes second, if it is wanted.
pub record AreKept (tests : List (List Bool)) (marks : List Bool) (pairs : Bool) (room : ℕ)
    (old new : List (List Bool)) : Type 0 where
  pub stay : (k : ℕ) (test : List Bool) → slice_get old k ≡ Some test
      → slice_get new k ≡ Some test
  pub none : ((t : ℕ) → ¬ IsWanted marks pairs t) → new ≡ old
  pub first : length old ≡ 0 → 2 ≤ room → (t : ℕ) → t < length tests
      → IsFirstWanted marks pairs t → slice_get new 0 ≡ slice_get tests t
  pub second : length old ≡ 0 → 2 ≤ room → (t : ℕ) → t + 1 < length tests
      → IsFirstWanted marks pairs t → IsWanted marks pairs (t + 1)
      → slice_get new 1 ≡ slice_get tests (t + 1)

-- The classes of a list that are left, given the first test that detects each class: the classes
-- that no test detects. They are at most as many as in the list, and the whole list if no class has
-- a first test.
pub record AreLeft (classes : List ℕ) (firsts : List (Option ℕ)) (left : List ℕ) : Type 0 where
  pub each : (k class : ℕ) → slice_get left k ≡ Some class
      → (i : ℕ) × (slice_get classes i ≡ Some class) × (slice_get firsts i ≡ Some None)
  pub all : (i class : ℕ) → slice_get classes i ≡ Some class → slice_get firsts i ≡ Some None
      → (k : ℕ) × (slice_get left k ≡ Some class)
  pub few : length left ≤ length classes
  pub same : length firsts ≡ length classes → ((t : ℕ) → ¬ HasFirst firsts t) → left ≡ classes

-- Tests have counts that are above 0 exactly for the tests that are the first to detect some fault.
pub record AreNews (firsts : List (Option ℕ)) (tests : ℕ) (news : List ℕ) : Type 0 where
  pub only : (t : ℕ) → 0 < slice_index news t → HasFirst firsts t
  pub all : (t : ℕ) → HasFirst firsts t → t < tests → 0 < slice_index news t
