-- When rows are a compaction of a list of tests.
use Rattle.std.specs.Prelude.{◌≡◌, ◌⊎◌, ◌↔◌, ℕ, ◌+◌, ◌<◌, ◌==◌, Bool, true, false, List, []}
use Rattle.std.specs.Prelude.{◌∷◌, length, Contains, Option, Some, None, count_by, slice_get, take}
use Rattle.std.specs.List.{list_any}
use Rattle.bench_net.specs.Statement.{Statement}
use Rattle.fault_model.specs.declared.Model.{Model}
use Rattle.fault_model.specs.declared.Model.TheVariants.{StuckAt, Transition, TransitionPairs}
use Rattle.fault_model.specs.Fault.{Fault, faults}
use Rattle.fault_model.specs.Solution.{Test}
use Rattle.fault_model.specs.Detection.{DetectsAt}
use Rattle.patterns.specs.Least.{below}
use Rattle.block_sim.specs.First.{IsFirst}

-- the elements at the marked places, in order
abbrev pub at_marks : {X : Type 0} → List Bool → List X → List X
at_marks [] xs = []
at_marks (mark ∷ marks) [] = []
at_marks (true ∷ marks) (x ∷ xs) = x ∷ at_marks marks xs
at_marks (false ∷ marks) (x ∷ xs) = at_marks marks xs

-- the elements are some of a list, in its order
abbrev pub IsSublist : {X : Type 0} → List X → List X → Type 0
IsSublist some xs = (marks : List Bool) × (length marks ≡ length xs) × (some ≡ at_marks marks xs)

-- whether a test is the first of a fault, and whether it is the first of one of many
abbrev pub is_first : ℕ → Option ℕ → Bool
is_first t None = false
is_first t (Some first) = first == t

abbrev pub finds : List (Option ℕ) → ℕ → Bool
finds firsts t = list_any (is_first t) firsts

-- the test of this number is the first of the list that detects some fault
abbrev pub IsFirstForSome : Model → List Statement → List Test → ℕ → Type 0
IsFirstForSome m c tests t = (f : Fault) × Contains (faults m c) f × IsFirst c tests f (Some t)

-- it is the last of the list that detects some fault
abbrev pub IsLastForSome : Model → List Statement → List Test → ℕ → Type 0
IsLastForSome m c tests t = (f : Fault) × Contains (faults m c) f × DetectsAt c tests f t
    × ((later : ℕ) → t < later → ¬ DetectsAt c tests f later)

-- it or the next is the first of the list for some fault; it or the next is the last
abbrev pub IsFirstOrBefore : Model → List Statement → List Test → ℕ → Type 0
IsFirstOrBefore m c tests t = IsFirstForSome m c tests t ⊎ IsFirstForSome m c tests (t + 1)

abbrev pub IsLastOrBefore : Model → List Statement → List Test → ℕ → Type 0
IsLastOrBefore m c tests t = IsLastForSome m c tests t ⊎ IsLastForSome m c tests (t + 1)

-- which row a marked place of a list gives, counted from 0: as many places before it are marked
abbrev pub row_of : List Bool → ℕ → ℕ
row_of marks t = count_by (λ mark. mark) (take t marks)

-- The marks of the first pass for transition faults: a test is marked exactly if it or the next is
-- the first of the list for some fault.
abbrev pub AreEarly : Model → List Statement → List Test → List Bool → Type 0
AreEarly m c tests early = (length early ≡ length tests)
    × ((t : ℕ) → (slice_get early t ≡ Some true) ↔ IsFirstOrBefore m c tests t)

-- the first pass keeps the test, and of its rows this one or the next is the last for some fault
abbrev pub PassesTwice : Model → List Statement → List Test → ℕ → Type 0
PassesTwice m c tests t = (early : List Bool) × AreEarly m c tests early
    × (slice_get early t ≡ Some true)
    × IsLastOrBefore m c (at_marks early tests) (row_of early t)

-- The reason why test t of the list is kept as row k. Under stuck-at faults it is the first of the
-- list and the last of the rows for some faults. Under transition faults it or the next test is the
-- first; and of the tests with this property it or the next test is the last. In a list of pairs
-- this next test is the second of its pair.
abbrev pub IsNeeded : Model → List Statement → List Test → List Test → ℕ → ℕ → Type 0
IsNeeded StuckAt c tests kept t k =
    IsFirstForSome StuckAt c tests t × IsLastForSome StuckAt c kept k
IsNeeded Transition c tests kept t k = PassesTwice Transition c tests t
IsNeeded TransitionPairs c tests kept t k = PassesTwice TransitionPairs c tests t

-- the second list detects each fault of the model that the first one detects
abbrev pub Covers : Model → List Statement → List Test → List Test → Type 0
Covers m c tests kept = (f : Fault) (t : ℕ) → Contains (faults m c) f → DetectsAt c tests f t
    → (k : ℕ) × DetectsAt c kept f k

-- The kept tests are marked, each by its place in the list. The rows are these tests, in order.
-- They detect each fault that the tests detect, and each marked test is needed as its row.
pub record IsCompaction (m : Model) (c : List Statement) (tests kept : List Test) : Type 0 where
  pub marks : List Bool
  pub count : length marks ≡ length tests
  pub rows : kept ≡ at_marks marks tests
  pub covers : Covers m c tests kept
  pub needed : (t : ℕ) → slice_get marks t ≡ Some true
      → IsNeeded m c tests kept t (row_of marks t)

-- with the number that each row has in the list, from 0: the numbers of the marked places
abbrev pub IsNumbered : Model → List Statement → List Test → List Test → List ℕ → Type 0
IsNumbered m c tests kept numbers = (is : IsCompaction m c tests kept)
    × (numbers ≡ at_marks is.marks (below (length tests)))
