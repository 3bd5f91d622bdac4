-- The run of one worker by itself over a list of classes: block after block, from the first block
-- whose tests count, and on each block in the order of the list. A class that more tests can't
-- change is left out.
use Rattle.std.specs.Prelude.{◌≡◌, ◌≢◌, ◌⊎◌, ◌↔◌, ◌<◌, ◌≤◌, ◌+◌, ◌*◌, ⊤, ℕ, Bool, List, [], ◌∷◌}
use Rattle.std.specs.Prelude.{length, slice_get, true, All, Option, Some, None}
use Rattle.std.specs.declared.vec.Vec.{Vec}
use Rattle.patterns.specs.Tests.{blocks}
use Rattle.block_sim.specs.Parts.{Parts}
use Rattle.workers.specs.Stops.{Stops}
use Rattle.region_runs.specs.declared.stretch_run.Stop.{Stop}
use Rattle.region_runs.specs.declared.stretch_run.Waiting.{Waiting}
use Rattle.region_sim.specs.ClassOrder.{AreAllByRegion}
use Rattle.region_sim.specs.Goals.{AreHits}
use Rattle.region_runs.specs.Part.{ArePartOf, stretch_at, stretch_size, stretches_for}
use Rattle.region_runs.specs.Tasks.{AreKept, Task, first_tests}
use Rattle.region_runs.specs.declared.stretch_workers.Done.{Done}

-- Of two pieces of a list, each of a place and a block, the first comes before the second: it is on
-- an earlier block, or on the same block and at an earlier place.
abbrev pub IsEarlier : ℕ → ℕ → ℕ → ℕ → Type 0
IsEarlier k b place block = (b < block) ⊎ ((b ≡ block) × (k < place))

-- the first n blocks of the class at place k come before the piece of this place and block
abbrev pub AreEarlier : ℕ → ℕ → ℕ → ℕ → Type 0
AreEarlier place block k n = (b : ℕ) → (b < n) ↔ IsEarlier k b place block

-- what is kept of the classes of a list, of the tests of the blocks that come before a piece
pub record AreKeptUpTo {K : Type 0} (task : Task K) (classes : List ℕ) (place block : ℕ)
    (kept : List K) : Type 0 where
  pub count : length kept ≡ length classes
  pub each : (hits : ℕ → Bool) (k class n : ℕ) (one : K) → slice_get classes k ≡ Some class
      → slice_get kept k ≡ Some one → AreHits task.job class hits → AreEarlier place block k n
      → task.means hits (64 * task.from) (64 * n) one

-- more tests than those of the first n blocks can change what is kept of the class
abbrev pub IsOpenAfter : {K : Type 0} → Task K → ℕ → ℕ → Type 0
IsOpenAfter {K} task class n = (hits : ℕ → Bool) (one : K) → AreHits task.job class hits
    → task.means hits (64 * task.from) (64 * n) one → task.wants one ≡ true

-- the gate may stop the worker at a class of the list that the earlier blocks leave open
pub record IsStopAt {K : Type 0} (task : Task K) (classes : List ℕ) (worker : ℕ) (stops : Stops)
    (stop : Stop) : Type 0 where
  pub class : ℕ
  pub at : slice_get classes stop.place ≡ Some class
  pub low : task.from ≤ stop.block
  pub within : stop.block < blocks (length task.job.tests.tests)
  pub stopped : stops.may worker class stop.block
  pub still : IsOpenAfter task class stop.block

-- The gate let the worker pass each piece before this one whose class the earlier blocks leave
-- open, so it surely stops the worker at none of these.
abbrev pub ArePassed : {K : Type 0} → Task K → List ℕ → ℕ → Stops → ℕ → ℕ → Type 0
ArePassed task classes worker stops place block = (k class b : ℕ) → slice_get classes k ≡ Some class
    → task.from ≤ b → IsEarlier k b place block → IsOpenAfter task class b
    → ¬ stops.must worker class b

-- the gate let it pass so up to the end of its run: at a piece, or after the last block
abbrev pub HasPassed : {K : Type 0} → Task K → List ℕ → ℕ → Stops → Option Stop → Type 0
HasPassed task classes worker stops None =
    ArePassed task classes worker stops 0 (blocks (length task.job.tests.tests))
HasPassed task classes worker stops (Some stop) =
    ArePassed task classes worker stops stop.place stop.block

-- how a worker's run over a list ends: at a piece at which the gate stopped it, or after the last
-- block
abbrev pub HasEnded : {K : Type 0} → Task K → List ℕ → ℕ → Stops → Option Stop → List K → Type 0
HasEnded task classes worker stops None kept =
    AreKeptUpTo task classes 0 (blocks (length task.job.tests.tests)) kept
    × HasPassed task classes worker stops None
HasEnded task classes worker stops (Some stop) kept =
    IsStopAt task classes worker stops stop × AreKeptUpTo task classes stop.place stop.block kept
    × HasPassed task classes worker stops (Some stop)

-- a class among the first n of a list isn't settled at the stop of the worker, and waits for this
-- block
pub record IsOpenBelow {K : Type 0} (task : Task K) (classes : List ℕ) (stop : Stop)
    (n class block : ℕ) : Type 0 where
  pub place : ℕ
  pub low : place < n
  pub at : slice_get classes place ≡ Some class
  pub block_is : AreEarlier stop.place stop.block place block
  pub within : block < blocks (length task.job.tests.tests)
  pub still : IsOpenAfter task class block

-- the same among all of the list; a worker that wasn't stopped leaves none
abbrev pub IsOpenIn : {K : Type 0} → Task K → List ℕ → Option Stop → ℕ → ℕ → Type 0
IsOpenIn task classes None class block = ⊥
IsOpenIn task classes (Some stop) class block =
    IsOpenBelow task classes stop (length classes) class block

-- the lowest class with the property, with the block that it waits for
abbrev pub IsLowest : (ℕ → ℕ → Type 0) → Option Waiting → Type 0
IsLowest Waits None = (class block : ℕ) → ¬ Waits class block
IsLowest Waits (Some lowest) = Waits lowest.class lowest.block
    × ((class block : ℕ) → Waits class block → lowest.class ≤ class)

-- a class that waits, or none, is no higher than another
abbrev pub IsNoHigher : Option Waiting → Option Waiting → Type 0
IsNoHigher lowest None = ⊤
IsNoHigher None (Some other) = ⊥
IsNoHigher (Some one) (Some other) = one.class ≤ other.class

-- it is the lower of two: one of them, and no higher than either
abbrev pub IsLowerOf : Option Waiting → Option Waiting → Option Waiting → Type 0
IsLowerOf first second lowest = ((lowest ≡ first) ⊎ (lowest ≡ second))
    × IsNoHigher lowest first × IsNoHigher lowest second

-- The result of a worker for a stretch of the classes: its run over it ended so, and it names the
-- lowest class that isn't settled. If the gate lets all pass, it wasn't stopped.
pub record IsDone {K : Type 0} (task : Task K) (size : ℕ) (classes : List ℕ) (worker : ℕ)
    (passing : Type 0) (stops : Stops) (done : Done K) : Type 0 where
  pub worker_is : done.worker ≡ worker
  pub ended : HasEnded task (stretch_at size classes done.stretch) worker stops done.stop
      done.kept.items
  pub lowest : IsLowest (IsOpenIn task
      (stretch_at size classes done.stretch) done.stop) done.waiting
  pub passed : passing → done.stop ≡ None

-- the results for each of several stretches
abbrev pub AreDone : {K : Type 0} → Task K → ℕ → List ℕ → ℕ → Type 0 → Stops → List (Done K)
    → Type 0
AreDone task size classes worker passing stops all =
    All (λ done. IsDone task size classes worker passing stops done) all

-- The results of a worker were put into a table of stretches: the result at a place was there
-- before, or is one of the worker's, for the stretch of this number.
pub record ArePut {K : Type 0} (was : List (Option (Done K))) (given : List (Done K))
    (table : List (Option (Done K))) : Type 0 where
  pub count : length table ≡ length was
  pub each : (stretch : ℕ) (done : Done K) → slice_get table stretch ≡ Some (Some done)
      → (slice_get was stretch ≡ Some (Some done))
      ⊎ ((done.stretch ≡ stretch) × (k : ℕ) × (slice_get given k ≡ Some done))
  pub stays : (stretch : ℕ) → slice_get table stretch ≡ Some None
      → slice_get was stretch ≡ Some None
  pub all : (k : ℕ) (done : Done K) → slice_get given k ≡ Some done
      → slice_get table done.stretch ≢ Some None

-- A table of stretches, of the results of threads. The result at a place is one of a thread's, for
-- the stretch of this number, and each place for which a thread has a result isn't empty.
pub record AreGivenBack {K Z : Type 0} (stretches : ℕ) (back : List (Vec (Done K) Z))
    (table : List (Option (Done K))) : Type 0 where
  pub count : length table ≡ stretches
  pub each : (stretch : ℕ) (done : Done K) → slice_get table stretch ≡ Some (Some done)
      → (done.stretch ≡ stretch) × (thread : ℕ) × (given : Vec (Done K) Z)
      × (slice_get back thread ≡ Some given)
      × (k : ℕ) × (slice_get given.items k ≡ Some done)
  pub all : (thread : ℕ) (given : Vec (Done K) Z) (k : ℕ) (done : Done K)
      → slice_get back thread ≡ Some given → slice_get given.items k ≡ Some done
      → slice_get table done.stretch ≢ Some None

-- the run of one stretch: its classes, the worker that ran it, or none, and the point where it
-- ended before its last piece
pub record StretchRun : Type 0 where
  pub classes : List ℕ
  pub worker : Option ℕ
  pub stop : Option Stop

-- the point where the run of a stretch ended that no worker began
abbrev pub at_first : ℕ → Stop
at_first from = record { place = 0; block = from }

-- the run of a stretch that no worker began: it ended before its first piece, if it has one
abbrev pub unbegun_run : ℕ → List ℕ → StretchRun
unbegun_run from [] = record { classes = []; worker = None; stop = None }
unbegun_run from (class ∷ classes) =
    record { classes = class ∷ classes; worker = None; stop = Some (at_first from) }

-- the run of a stretch by a place of a table of stretches: a worker has this result, or none began
-- it
abbrev pub run_at : {K : Type 0} → ℕ → List ℕ → Option (Done K) → StretchRun
run_at from classes None = unbegun_run from classes
run_at from classes (Some done) =
    record { classes = classes; worker = Some done.worker; stop = done.stop }

-- the runs of the stretches in a table, from this stretch on, if a run begins with this block
abbrev pub runs_from : {K : Type 0} → ℕ → ℕ → List ℕ → ℕ → List (Option (Done K)) → List StretchRun
runs_from from size classes stretch [] = []
runs_from from size classes stretch (place ∷ table) = run_at from
    (stretch_at size classes stretch) place
    ∷ runs_from from size classes (stretch + 1) table

-- the gate stopped this worker in one of the runs
abbrev pub IsStoppedAmong : {K : Type 0} → Task K → Stops → List StretchRun → ℕ → Type 0
IsStoppedAmong task stops runs w = (stretch : ℕ) × (run : StretchRun) × (stop : Stop)
    × (slice_get runs stretch ≡ Some run) × (run.worker ≡ Some w) × (run.stop ≡ Some stop)
    × IsStopAt task run.classes w stops stop

-- the gate stopped each of these workers in one of the runs, as far as there is a stretch with a
-- class for each
abbrev pub AreAllStopped : {K : Type 0} → Task K → ℕ → List ℕ → ℕ → Stops → List StretchRun → Type 0
AreAllStopped task size classes workers stops runs = (w : ℕ) → w < workers
    → 0 < length (stretch_at size classes w) → IsStoppedAmong task stops runs w

-- How a run of a stretch ended. Either one of the workers ran it: it was stopped only at a piece
-- where the gate may stop the worker, and it passed no piece where the gate surely does. Or no
-- worker began it: then it has no class, or the gate stopped each worker in one of the runs.
abbrev pub HasRunSo : {K : Type 0} → Task K → ℕ → List ℕ → ℕ → Stops → List StretchRun → StretchRun
    → Option ℕ → Type 0
HasRunSo task size classes workers stops runs run (Some w) = (w < workers)
    × ((stop : Stop) → run.stop ≡ Some stop → IsStopAt task run.classes w stops stop)
    × HasPassed task run.classes w stops run.stop
HasRunSo task size classes workers stops runs run None = (run ≡ unbegun_run task.from run.classes)
    × (0 < length run.classes → AreAllStopped task size classes workers stops runs)

-- the runs of n stretches of classes; a worker is stopped in at most one of them
pub record AreRunsOf {K : Type 0} (task : Task K) (size : ℕ) (classes : List ℕ) (workers : ℕ)
    (stops : Stops)
    (n : ℕ) (runs : List StretchRun) : Type 0 where
  pub count : length runs ≡ n
  pub each : (stretch : ℕ) (run : StretchRun) → slice_get runs stretch ≡ Some run
      → (run.classes ≡ stretch_at size classes stretch)
      × HasRunSo task size classes workers stops runs run run.worker
  pub once : (i k w : ℕ) (a b : StretchRun) (s t : Stop) → slice_get runs i ≡ Some a
      → slice_get runs k ≡ Some b → a.worker ≡ Some w → b.worker ≡ Some w
      → a.stop ≡ Some s → b.stop ≡ Some t → i ≡ k

-- a class of one of the runs isn't settled, and waits for this block
abbrev pub WaitsIn : {K : Type 0} → Task K → List StretchRun → ℕ → ℕ → Type 0
WaitsIn task runs class block = (stretch : ℕ) × (run : StretchRun)
    × (slice_get runs stretch ≡ Some run)
    × IsOpenIn task run.classes run.stop class block

-- the lowest class of a run that isn't settled
abbrev pub IsLowestIn : {K : Type 0} → Task K → StretchRun → Option Waiting → Type 0
IsLowestIn task run lowest = IsLowest (IsOpenIn task run.classes run.stop) lowest

-- what the result at a place of a table of stretches keeps; an empty place keeps nothing
abbrev pub kept_at : {K : Type 0} → Option (Done K) → List K
kept_at None = []
kept_at (Some done) = done.kept.items

-- each place of a table of stretches has what is kept of the classes of its stretch
abbrev pub AreAllKept : {K : Type 0} → Task K → ℕ → List ℕ → List (Option (Done K)) → Type 0
AreAllKept {K} task size classes table = (stretch : ℕ) (place : Option (Done K))
    → slice_get table stretch ≡ Some place
    → AreKept task (stretch_at size classes stretch) (kept_at place)

-- A place of a table of stretches has the lowest class of its stretch that isn't settled. An empty
-- place is right if there is a block to run, or the stretch has no class.
abbrev pub IsLowestAt : {K : Type 0} → Task K → List ℕ → Option (Done K) → Type 0
IsLowestAt task own None = 0 < length own → task.from < blocks (length task.job.tests.tests)
IsLowestAt task own (Some done) = IsLowestIn task (run_at task.from own (Some done)) done.waiting

-- all do
abbrev pub AreAllLowest : {K : Type 0} → Task K → ℕ → List ℕ → List (Option (Done K)) → Type 0
AreAllLowest {K} task size classes table = (stretch : ℕ) (place : Option (Done K))
    → slice_get table stretch ≡ Some place → IsLowestAt task (stretch_at size classes stretch) place

-- A run of classes in a number of stretches of this size that its gate stopped waits for this class
-- and block: the class is the lowest unsettled class of all stretches.
pub record StretchesWaitFor {K : Type 0} (task : Task K) (size : ℕ) (classes : List ℕ)
    (stretches workers : ℕ)
    (stops : Stops) (class block : ℕ) : Type 0 where
  pub runs : List StretchRun
  pub are : AreRunsOf task size classes workers stops stretches runs
  pub lowest : IsLowest (WaitsIn task runs) (Some (record { class = class; block = block }))

-- the same for all classes
abbrev pub GoalWaitsFor : {K : Type 0} → Task K → ℕ → ℕ → Stops → ℕ → ℕ → Type 0
GoalWaitsFor task stretches workers stops class block =
    (classes : List ℕ) × AreAllByRegion task.job classes
    × StretchesWaitFor task (stretch_size (length classes) stretches) classes stretches workers
    stops class block

-- the same for the classes of a list, which are run in a number of stretches that suits the workers
abbrev pub ListWaitsFor : {K : Type 0} → Task K → List ℕ → ℕ → Stops → ℕ → ℕ → Type 0
ListWaitsFor task classes workers stops class block = StretchesWaitFor task
    (stretch_size (length classes) (stretches_for (length classes) workers)) classes
    (stretches_for (length classes) workers) workers stops class block

-- so for the classes of a part
abbrev pub PartWaitsFor : Parts → ℕ → ℕ → ℕ → Stops → ℕ → ℕ → Type 0
PartWaitsFor job parts part workers stops class block =
    (classes : List ℕ) × ArePartOf job parts part classes
    × ListWaitsFor (first_tests job) classes workers stops class block
