-- The tests that detect each class, in words of 128.
use Rattle.std.specs.Prelude.{◌≡◌, ◌<◌, ℕ, Bool, List, Some, length, slice_get, slice_index}
use Rattle.std.specs.declared.vec.Vec.{Vec}
use Rattle.flat_circuit.specs.BlockSpans.{groups}
use Rattle.block_sim.specs.Parts.{Parts}
use Rattle.n_detect.specs.ListLanes.{AreGroupLanes, AreLanesIn}

-- of each of this many groups the lanes of a word are the hits among the tests from one up to
-- another
pub record AreGroupsIn (count : ℕ) (hits : ℕ → Bool) (low high : ℕ) (words : List ℕ) : Type 0 where
  pub long : length words ≡ count
  pub each : (group word : ℕ) → slice_get words group ≡ Some word
      → AreLanesIn group hits low high word

-- Each class has a position. There stands a word for each group, and its lanes that are 1 are those
-- whose test detects the representative of the class.
pub record AreClassTests {Z : Type 0} (job : Parts) (positions : List ℕ) (rows : List (Vec ℕ Z))
    : Type 0 where
  pub count : length positions ≡ length job.classes.representative
  pub within : (class : ℕ) → class < length job.classes.representative
      → slice_index positions class < length rows
  pub long : (class : ℕ) (row : Vec ℕ Z) → class < length job.classes.representative
      → slice_get rows (slice_index positions class) ≡ Some row
      → length row.items ≡ groups (length job.tests.tests)
  pub each : (class group word : ℕ) (row : Vec ℕ Z) → class < length job.classes.representative
      → slice_get rows (slice_index positions class) ≡ Some row
      → slice_get row.items group ≡ Some word → AreGroupLanes job group class word
