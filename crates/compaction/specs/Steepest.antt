-- Tests in the order in which each detects the most classes that none before it detects.
use Rattle.std.specs.Prelude.{◌≡◌, ◌<◌, ◌≤◌, ◌-◌, ◌&&◌, ℕ, Bool, true, not, List, []}
use Rattle.std.specs.Prelude.{◌∷◌, Some, count_by, flat_map, length, map, slice_get}
use Rattle.std.specs.Prelude.{slice_index_or, take}
use Rattle.std.specs.Bool.{Decides}
use Rattle.std.specs.List.{list_any}
use Rattle.bench_net.specs.Statement.{Statement}
use Rattle.fault_model.specs.declared.Model.{Model}
use Rattle.fault_model.specs.declared.Model.TheVariants.{StuckAt, Transition, TransitionPairs}
use Rattle.fault_model.specs.Collapse.{representatives}
use Rattle.fault_model.specs.Detection.{DetectsAt}
use Rattle.fault_model.specs.Fault.{Fault}
use Rattle.fault_model.specs.Solution.{Test}
use Rattle.patterns.specs.Least.{below}
use Rattle.compaction.specs.Compaction.{Covers, IsNumbered}
use Rattle.compaction.specs.declared.TestOrder.{TestOrder}
use Rattle.compaction.specs.declared.TestOrder.TheVariants.{AsListed, Steepest}

-- which classes, by their numbers, which tests of a list detect
abbrev pub DetectsClasses : Model → List Statement → List Test → (ℕ → ℕ → Bool) → Type 0
DetectsClasses m c tests detects = (class t : ℕ) (r : Fault)
    → slice_get (representatives m c) class ≡ Some r → t < length tests
    → Decides (detects class t) (DetectsAt c tests r t)

-- the number of classes, among this many, that a test detects and none of some tests detects
abbrev pub news : (ℕ → ℕ → Bool) → ℕ → List ℕ → ℕ → ℕ
news detects classes before t =
    count_by (λ class. detects class t && not (list_any (detects class) before)) (below classes)

-- Tests, by their numbers, in steepest order: each detects some class that none before it detects,
-- no test detects more such classes, and none with a lower number as many. Each class that a test
-- of the list detects is detected by one of these.
pub record IsSteepest (detects : ℕ → ℕ → Bool) (classes tests : ℕ) (order : List ℕ) : Type 0 where
  pub within : (k s : ℕ) → slice_get order k ≡ Some s → s < tests
  pub some : (k s : ℕ) → slice_get order k ≡ Some s → 0 < news detects classes (take k order) s
  pub most : (k s t : ℕ) → slice_get order k ≡ Some s → t < tests
      → news detects classes (take k order) t ≤ news detects classes (take k order) s
  pub lowest : (k s t : ℕ) → slice_get order k ≡ Some s → t < s
      → news detects classes (take k order) t < news detects classes (take k order) s
  pub all : (class t : ℕ) → class < classes → t < tests → detects class t ≡ true
      → list_any (detects class) order ≡ true

-- the elements of a list at these places, one for each
abbrev pub at_places : {X : Type 0} → X → List X → List ℕ → List X
at_places d xs places = map (λ place. slice_index_or xs place d) places

-- the places of the tests of an order: in a list of pairs each comes with the launch test before it
abbrev pub with_launches : Model → List ℕ → List ℕ
with_launches StuckAt order = order
with_launches Transition order = order
with_launches TransitionPairs order = flat_map (λ t. (t - 1) ∷ t ∷ []) order

-- The tests are a compaction of a list in steepest order, each with its number in the list. In a
-- list of pairs the pairs are in this order. They detect each fault of the model that the list
-- detects.
pub record IsSteepestCompaction (m : Model) (c : List Statement) (tests kept : List Test)
    (numbers : List ℕ) : Type 0 where
  pub between : List Test
  pub given : List ℕ
  pub compacted : IsNumbered m c tests between given
  pub order : List ℕ
  pub detects : ℕ → ℕ → Bool
  pub decides : DetectsClasses m c between detects
  pub steepest : IsSteepest detects (length (representatives m c)) (length between) order
  pub rows : kept ≡ at_places [] between (with_launches m order)
  pub numbered : numbers ≡ at_places 0 given (with_launches m order)
  pub covers : Covers m c tests kept

-- The tests are a compaction, in this order, each with its number in the list. If each test of the
-- list makes a pair with the test before it, the only order is the order of the list.
abbrev pub IsOrdered : TestOrder → Model → List Statement → List Test → List Test → List ℕ → Type 0
IsOrdered AsListed m c tests kept numbers = IsNumbered m c tests kept numbers
IsOrdered Steepest StuckAt c tests kept numbers =
    IsSteepestCompaction StuckAt c tests kept numbers
IsOrdered Steepest Transition c tests kept numbers = IsNumbered Transition c tests kept numbers
IsOrdered Steepest TransitionPairs c tests kept numbers =
    IsSteepestCompaction TransitionPairs c tests kept numbers
