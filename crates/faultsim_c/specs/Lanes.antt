-- The tests of a block that detect the classes of a list.
use Rattle.std.specs.Prelude.{◌≡◌, ◌+◌, ◌*◌, ◌<◌, ℕ, Bool, List, Some, count_by, length, min}
use Rattle.std.specs.Prelude.{slice_get}
use Rattle.std.specs.Bool.{Decides}
use Rattle.fault_model.specs.Collapse.{representatives}
use Rattle.fault_model.specs.Detection.{DetectsAt}
use Rattle.fault_model.specs.Fault.{Fault}
use Rattle.patterns.specs.Least.{below}
use Rattle.block_sim.specs.First.{AreDetecting}
use Rattle.block_sim.specs.Parts.{Parts}

-- for each class of a list the lanes whose test of the block detects it
pub record AreClassLanes (parts : Parts) (block : ℕ) (classes lanes : List ℕ) : Type 0 where
  pub count : length lanes ≡ length classes
  pub each : (k class word : ℕ) → slice_get classes k ≡ Some class
      → slice_get lanes k ≡ Some word
      → AreDetecting parts.list.model parts.circuit parts.tests.tests class block word

-- the number of tests of a block that detect the representative of a class
pub record IsBlockCount (parts : Parts) (class block n : ℕ) : Type 0 where
  pub fault : Fault
  pub of : slice_get (representatives parts.list.model parts.circuit) class ≡ Some fault
  pub detects : ℕ → Bool
  pub decides : (k : ℕ) → k < 64
      → Decides (detects k) (DetectsAt parts.circuit parts.tests.tests fault (64 * block + k))
  pub number : n ≡ count_by detects (below 64)

-- to the count of each class of a list the number of tests of the block is added that detect it, up
-- to `most`
pub record AreAddedCounts (parts : Parts) (block : ℕ) (classes : List ℕ) (most : ℕ)
    (before after : List ℕ) : Type 0 where
  pub count : length after ≡ length before
  pub each : (k class old new : ℕ) → slice_get classes k ≡ Some class
      → slice_get before k ≡ Some old → slice_get after k ≡ Some new
      → (n : ℕ) × IsBlockCount parts class block n × (new ≡ min most (old + n))
