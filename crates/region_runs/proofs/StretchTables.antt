-- Tables of the stretches of a run, with the results of workers.
use Rattle.std.specs.Prelude.{◌≡◌, ◌<◌, ℕ, List, length, slice_get, Option, Some, None}
use Rattle.patterns.specs.Tests.{blocks}
use Rattle.workers.specs.Stops.{Stops}
use Rattle.region_runs.specs.declared.{stretch_run.Waiting.Waiting, stretch_workers.Done.Done}
use Rattle.region_runs.specs.{Part.stretch_at, StretchRuns.{AreAllStopped, IsDone, runs_from}}
use Rattle.region_runs.specs.Tasks.{Task}

-- A place of a table of stretches has a worker's result for the stretch of this number, and if it
-- is empty no worker began the stretch. Then the stretch has no class, or the gate stopped each
-- worker in one of the runs, so it does not let all pass, and there is a block to run. A worker
-- leaves a class open in at most one stretch.
pub record AreFoundByStretch {K : Type 0} (task : Task K) (size : ℕ) (classes : List ℕ)
    (workers : ℕ)
    (passing : Type 0) (stops : Stops) (table : List (Option (Done K))) : Type 0 where
  pub each : (stretch : ℕ) (done : Done K) → slice_get table stretch ≡ Some (Some done)
      → (done.stretch ≡ stretch) × (done.worker < workers)
      × IsDone task size classes done.worker passing stops done
  pub none : (stretch : ℕ) → slice_get table stretch ≡ Some None
      → 0 < length (stretch_at size classes stretch)
      → (¬ passing) × (task.from < blocks (length task.job.tests.tests))
      × AreAllStopped task size classes workers stops (runs_from task.from size classes 0 table)
  pub once : (i k : ℕ) (a b : Done K) (v w : Waiting) → slice_get table i ≡ Some (Some a)
      → slice_get table k ≡ Some (Some b) → a.worker ≡ b.worker
      → a.waiting ≡ Some v → b.waiting ≡ Some w → i ≡ k

-- a place of a table of stretches is whole: a worker did all of the stretch, or it has no class
abbrev pub IsWholeAt : {K : Type 0} → ℕ → List ℕ → ℕ → Option (Done K) → Type 0
IsWholeAt size classes stretch None = length (stretch_at size classes stretch) ≡ 0
IsWholeAt size classes stretch (Some done) = done.waiting ≡ None

-- all are
abbrev pub AreWhole : {K : Type 0} → ℕ → List ℕ → List (Option (Done K)) → Type 0
AreWhole {K} size classes table = (stretch : ℕ) (place : Option (Done K))
    → slice_get table stretch ≡ Some place → IsWholeAt size classes stretch place
