-- The ledgers of a run window by window: each window has one, which hands out stretches of the
-- classes that more tests can change.
use Rattle.std.specs.Prelude.{◌≡◌, ◌*◌, ◌-◌, ℕ, Bool, List, [], All, map, filter, zip, length}
use Rattle.patterns.specs.Tests.{TestList, blocks}
use Rattle.block_sim.specs.Parts.{with_tests}
use Rattle.fault_ledger.specs.Seats.{ClosedFace}
use Rattle.region_runs.specs.declared.windows.Window.{Window}
use Rattle.region_runs.specs.Joins.{AreJoined}
use Rattle.region_runs.specs.Part.{stretch_size, stretches_for}
use Rattle.region_runs.specs.Stretches.{AreByStretches}
use Rattle.region_runs.specs.Tasks.{IsAtFirst, Task}
use Rattle.region_runs.specs.Windows.{GoesOnFrom, IsWindowOf}

-- the classes of a list of which more tests can change what is kept
abbrev pub open_classes : {K : Type 0} → (K → Bool) → List ℕ → List K → List ℕ
open_classes wants classes kept = map (λ at. at.0) (filter (λ at. wants at.1) (zip classes kept))

-- the task of a window: its own tests, from the block on that no window before has
abbrev pub window_task : {K : Type 0} → Task K → TestList → Window → Task K
window_task task tests window = record {
  job = with_tests task.job tests;
  from = window.first - window.from;
  wants = task.wants;
  means = task.means;
}

-- What is kept of the classes of a list was found stretch by stretch, in a number of stretches that
-- suits the workers.
abbrev pub AreFoundByLedger : {K : Type 0} → Task K → ℕ → List ℕ → List K → ClosedFace → Type 0
AreFoundByLedger task workers classes kept ledger = AreByStretches task
    (stretch_size (length classes) (stretches_for (length classes) workers)) classes workers kept
    ledger

-- A window ran the classes of a list that more tests could change, on its own tests: a closed
-- ledger of their stretches shows a legal and finished history, in which each report stands for
-- what is kept of its stretch. This was joined with what was kept before.
pub record HasRunWindow {K : Type 0} (task : Task K) (workers : ℕ) (classes : List ℕ)
    (window : Window) (before after : List K) : Type 0 where
  pub tests : TestList
  pub are : IsWindowOf task.job.tests.tests (64 * window.from) (64 * window.end) tests.tests
  pub found : List K
  pub ledger : ClosedFace
  pub by : AreFoundByLedger (window_task task tests window) workers
      (open_classes task.wants classes before) found ledger
  pub joined : AreJoined task.wants task.means (64 * window.from) before found after

-- What is kept of the classes of a list, of the tests of the blocks below one, found window by
-- window: at first that of no test. Each window goes on from the block at which the one before it
-- ends. Once no test can change anything, no window runs any more.
pub data AreOfWindows {K : Type 0} (task : Task K) (workers : ℕ) (classes : List ℕ) :
    ℕ → List K → Type 0 where
  begins : (kept : List K) → length kept ≡ length classes → All (λ one. IsAtFirst task one) kept
      → AreOfWindows task workers classes 0 kept
  goes_on : (first : ℕ) (window : Window) (before after : List K)
      → GoesOnFrom (blocks (length task.job.tests.tests)) first window
      → AreOfWindows task workers classes first before
      → HasRunWindow task workers classes window before after
      → AreOfWindows task workers classes window.end after
  settled : (block later : ℕ) (kept : List K)
      → AreOfWindows task workers classes block kept → open_classes task.wants classes kept ≡ []
      → AreOfWindows task workers classes later kept
