-- Runs over a list of tests window by window: on some of its blocks at a time.
use Rattle.std.specs.Prelude.{◌≡◌, ◌⊎◌, ◌+◌, ◌*◌, ◌<◌, ◌≤◌, ℕ, Bool, suc, List, Some, length}
use Rattle.std.specs.Prelude.{slice_get}
use Rattle.fault_model.specs.Solution.{Test}
use Rattle.patterns.specs.Making.{word_of}
use Rattle.patterns.specs.Tests.{IsWord, TestList}
use Rattle.block_sim.specs.Parts.{Parts, with_tests}
use Rattle.region_runs.specs.declared.windows.Window.{Window}
use Rattle.region_runs.specs.Tasks.{Task}
use Rattle.region_sim.specs.Goals.{AreHits}

-- what is kept of the classes of a list, of the tests below a number
pub record AreKeptBelow {K : Type 0} (task : Task K) (end : ℕ) (classes : List ℕ)
    (kept : List K) : Type 0 where
  pub count : length kept ≡ length classes
  pub each : (hits : ℕ → Bool) (k class : ℕ) (one : K) → slice_get classes k ≡ Some class
      → slice_get kept k ≡ Some one → AreHits task.job class hits → task.means hits 0 end one

-- these tests are those of a list from a number on, all that are below another number
pub record IsWindowOf (tests : List Test) (from end : ℕ) (window : List Test) : Type 0 where
  pub each : (k : ℕ) → k < length window → slice_get window k ≡ slice_get tests (from + k)
  pub all : (t : ℕ) (test : Test) → t < end → slice_get tests t ≡ Some test
      → t < from + length window
  pub within : from + length window ≤ end

-- the words of this number of blocks from one on, one a source
pub record AreWordsFrom (tests : TestList) (from count : ℕ) (words : List ℕ) : Type 0 where
  pub long : length words ≡ tests.width * count
  pub each : (block source : ℕ) → block < count → source < tests.width
      → IsWord tests.tests (from + block) source (word_of tests.width words block source)

-- The window goes on from a block, and has some blocks from it on. It begins with the block before,
-- since a transition fault looks back at the test before, unless there is none.
pub record GoesOnFrom (blocks first : ℕ) (window : Window) : Type 0 where
  pub first_is : window.first ≡ first
  pub some : first < window.end
  pub within : window.end ≤ blocks
  pub before : ((window.from ≡ 0) × (first ≡ 0)) ⊎ (suc window.from ≡ first)

-- The job is that of a window of another one: its tests are those of the blocks from one up to
-- another. They begin with the block before the first one that no window before has, if there is
-- one.
pub record IsWindowFor (all : Parts) (from first end : ℕ) (window : Parts) : Type 0 where
  pub is : window ≡ with_tests all window.tests
  pub of : IsWindowOf all.tests.tests (64 * from) (64 * end) window.tests.tests
  pub before : ((from ≡ 0) × (first ≡ 0)) ⊎ (suc from ≡ first)
  pub order : first ≤ end
