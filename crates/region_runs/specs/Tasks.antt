-- The task of a run: a job, the block with which the run begins, and what a goal keeps of each
-- class.
use Rattle.std.specs.Prelude.{◌≡◌, ◌≤◌, ◌<◌, ◌*◌, ℕ, Bool, List, Option, Some, length, slice_get}
use Rattle.std.specs.Prelude.{true, false}
use Rattle.patterns.specs.Tests.{blocks}
use Rattle.block_sim.specs.Parts.{Parts}
use Rattle.region_sim.specs.Goals.{AreHits, IsFirstHit, is_unknown}

pub record Task (K : Type 0) : Type 1 where
  pub job : Parts
  -- the tests of the blocks before this one don't count
  pub from : ℕ
  -- whether more tests can change what is kept of a class
  pub wants : K → Bool
  -- what is kept of a class of the tests from one up to another, by which of them detect it
  pub means : (ℕ → Bool) → ℕ → ℕ → K → Type 0

-- the task of a goal
abbrev pub task_of : {K : Type 0} → Parts → ℕ → (K → Bool) → ((ℕ → Bool) → ℕ → ℕ → K → Type 0)
    → Task K
task_of job from wants means = record { job = job; from = from; wants = wants; means = means }

-- the first test that detects each class, of all tests
abbrev pub first_tests : Parts → Task (Option ℕ)
first_tests job = task_of job 0 is_unknown IsFirstHit

-- What is kept decides whether more tests can change it. Then later tests change nothing, nor do
-- tests that don't detect the class.
pub record IsSound {K : Type 0} (task : Task K) : Type 0 where
  pub agrees : (one other : K) (hits : ℕ → Bool) (low high : ℕ) → task.means hits low high one
      → task.means hits low high other → task.wants one ≡ task.wants other
  pub stays : (kept : K) (hits : ℕ → Bool) (low high more : ℕ) → task.wants kept ≡ false
      → high ≤ more → task.means hits low high kept → task.means hits low more kept
  pub unchanged : (kept : K) (hits : ℕ → Bool) (low high more : ℕ) → high ≤ more
      → ((t : ℕ) → high ≤ t → t < more → hits t ≡ false) → task.means hits low high kept
      → task.means hits low more kept

-- what is kept of no test can be changed
abbrev pub IsOpenAtFirst : {K : Type 0} → Task K → Type 0
IsOpenAtFirst {K} task = (kept : K) (hits : ℕ → Bool) (at : ℕ) → task.means hits at at kept
    → task.wants kept ≡ true

-- a value is what is kept of no test
abbrev pub IsAtFirst : {K : Type 0} → Task K → K → Type 0
IsAtFirst task kept = (hits : ℕ → Bool) (at : ℕ) → task.means hits at at kept

-- what is kept of the classes of a list, of all tests that count
pub record AreKept {K : Type 0} (task : Task K) (classes : List ℕ) (kept : List K) : Type 0 where
  pub count : length kept ≡ length classes
  pub each : (hits : ℕ → Bool) (k class : ℕ) (one : K) → slice_get classes k ≡ Some class
      → slice_get kept k ≡ Some one → AreHits task.job class hits
      → task.means hits (64 * task.from) (64 * blocks (length task.job.tests.tests)) one
