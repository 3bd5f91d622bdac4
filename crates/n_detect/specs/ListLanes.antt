-- The tests of a group that detect the classes of a list.
use Rattle.std.specs.Prelude.{◌≡◌, ◌+◌, ◌*◌, ◌<◌, ◌≤◌, ℕ, Bool, List, Some, length, slice_get}
use Rattle.std.specs.Prelude.{true}
use Rattle.std.specs.Bool.{Decides}
use Rattle.fault_model.specs.Collapse.{representatives}
use Rattle.fault_model.specs.Detection.{DetectsAt}
use Rattle.fault_model.specs.Fault.{Fault}
use Rattle.flat_circuit.specs.Words.{lane}
use Rattle.flat_circuit.specs.declared.origin.ListedClass.{ListedClass}
use Rattle.block_sim.specs.Parts.{Parts}

-- the lanes of a word that are 1 are the lanes whose test of the group detects the representative
-- of the class
abbrev pub AreGroupLanes : Parts → ℕ → ℕ → ℕ → Type 0
AreGroupLanes job group class word =
    (r : Fault) × (slice_get (representatives job.list.model job.circuit) class ≡ Some r)
    × ((k : ℕ) → k < 128
    → Decides (lane word k) (DetectsAt job.circuit job.tests.tests r (128 * group + k)))

-- so it is for the class at each place of a list from one up to another, with the word at that
-- place
abbrev pub HaveGroupLanes : Parts → ℕ → List ListedClass → ℕ → ℕ → List ℕ → Type 0
HaveGroupLanes job group rows from to words = (place : ℕ) (row : ListedClass) → from ≤ place
    → place < to → slice_get rows place ≡ Some row
    → (word : ℕ) × (slice_get words place ≡ Some word) × AreGroupLanes job group row.class word

-- the lanes of a word are the hits of a group among the tests from one up to another
abbrev pub AreLanesIn : ℕ → (ℕ → Bool) → ℕ → ℕ → ℕ → Type 0
AreLanesIn group hits low high word = (k : ℕ) → k < 128 → Decides (lane word k)
    ((low ≤ 128 * group + k) × (128 * group + k < high) × (hits (128 * group + k) ≡ true))

-- for each class of a list the lanes whose test of the group detects its representative
pub record AreListLanes (job : Parts) (group : ℕ) (classes words : List ℕ) : Type 0 where
  pub count : length words ≡ length classes
  pub each : (k class word : ℕ) → slice_get classes k ≡ Some class
      → slice_get words k ≡ Some word → AreGroupLanes job group class word
