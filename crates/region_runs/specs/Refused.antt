-- The errors of a run in stretches.
use Rattle.std.specs.Prelude.{◌<◌, ◌≤◌, ℕ, List, length}
use Rattle.patterns.specs.Tests.{blocks}
use Rattle.block_sim.specs.Parts.{Parts}
use Rattle.workers.specs.declared.RunFault.{RunFault}
use Rattle.workers.specs.declared.RunFault.TheVariants.{Memory, Threads, Unfinished}
use Rattle.workers.specs.Refused.{IsWorkersFault}
use Rattle.workers.specs.Stops.{Stops}
use Rattle.region_runs.specs.StretchRuns.{GoalWaitsFor, ListWaitsFor, PartWaitsFor}
use Rattle.region_runs.specs.StretchRuns.{StretchesWaitFor}
use Rattle.region_runs.specs.Tasks.{Task, first_tests}

-- the error if classes are run in this number of stretches of this size, each by one worker by
-- itself: the class is the lowest of all that aren't settled
abbrev pub IsStretchesFault : {K : Type 0} → Task K → ℕ → List ℕ → ℕ → ℕ → Type 0 → Stops → RunFault
    → Type 0
IsStretchesFault task size classes stretches workers passing stops Memory =
    (0 < workers) × (workers ≤ 64)
IsStretchesFault task size classes stretches workers passing stops Threads =
    (0 < workers) × (workers ≤ 64)
IsStretchesFault task size classes stretches workers passing stops (Unfinished class block) =
    (0 < workers) × (workers ≤ 64)
    × (class < length task.job.classes.representative) × (block < blocks
    (length task.job.tests.tests))
    × (¬ passing) × StretchesWaitFor task size classes stretches workers stops class block
IsStretchesFault task size classes stretches workers passing stops fault = ⊥

-- The error of a run of classes of a job: memory or a thread, or its number of workers. If its gate
-- stopped workers, it names a class and block with this property, for which the run waits.
abbrev pub IsFaultOfRun : Parts → ℕ → Type 0 → (ℕ → ℕ → Type 0) → RunFault → Type 0
IsFaultOfRun job workers passing Waits Memory = (0 < workers) × (workers ≤ 64)
IsFaultOfRun job workers passing Waits Threads = (0 < workers) × (workers ≤ 64)
IsFaultOfRun job workers passing Waits (Unfinished class block) =
    (0 < workers) × (workers ≤ 64) × (class < length job.classes.representative)
    × (block < blocks (length job.tests.tests)) × (¬ passing) × Waits class block
IsFaultOfRun job workers passing Waits fault = IsWorkersFault workers fault

-- the error if all classes are run for a goal, in this number of stretches
abbrev pub IsGoalFault : {K : Type 0} → Task K → ℕ → ℕ → Type 0 → Stops → RunFault → Type 0
IsGoalFault task stretches workers passing stops fault = IsFaultOfRun task.job workers passing
    (GoalWaitsFor task stretches workers stops) fault

-- the error if the classes of a list are run for a goal, in a number of stretches that suits the
-- workers
abbrev pub IsListFault : {K : Type 0} → Task K → List ℕ → ℕ → Type 0 → Stops → RunFault → Type 0
IsListFault task classes workers passing stops fault = IsFaultOfRun task.job workers passing
    (ListWaitsFor task classes workers stops) fault

-- the error if the classes are a part's, for this number of parts
abbrev pub IsPartFault : Parts → ℕ → ℕ → ℕ → Type 0 → Stops → RunFault → Type 0
IsPartFault job parts part workers passing stops fault = IsFaultOfRun job workers passing
    (PartWaitsFor job parts part workers stops) fault

-- the error if all classes are run for first tests
abbrev pub IsFirstsFault : Parts → ℕ → ℕ → Type 0 → Stops → RunFault → Type 0
IsFirstsFault job stretches workers passing stops fault =
    IsGoalFault (first_tests job) stretches workers passing stops fault

-- the error of a run under a gate that lets each piece pass: its number of workers, and then memory
-- or a thread
abbrev pub IsOpenFault : ℕ → RunFault → Type 0
IsOpenFault workers Memory = (0 < workers) × (workers ≤ 64)
IsOpenFault workers Threads = (0 < workers) × (workers ≤ 64)
IsOpenFault workers fault = IsWorkersFault workers fault
