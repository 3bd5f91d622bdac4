-- Errors of runs in stretches.
use Rattle.std.{proofs.Common.{◌≡◌, List, ℕ, length, subst}, specs.Prelude.Bool}
use Rattle.block_sim.specs.Parts.{Parts}
use Rattle.workers.specs.{declared.RunFault.RunFault, Stops.Stops}
use Rattle.workers.specs.declared.RunFault.TheVariants as fault
use Rattle.region_runs.specs.{Cut.IsCutOf, Part.{ArePartOf, stretch_size, stretches_for}}
use Rattle.region_runs.specs.{Tasks.{Task, first_tests, task_of}, Refused.IsStretchesFault}
use Rattle.region_runs.specs.Refused.{IsFaultOfRun, IsListFault, IsOpenFault, IsPartFault}
use Rattle.region_runs.specs.StretchRuns.{ListWaitsFor, PartWaitsFor, StretchesWaitFor}

-- the errors of stretches under other names of these
pub fault_under : {K : Type 0} (job : Parts) (wants : K → Bool)
    (means : (ℕ → Bool) → ℕ → ℕ → K → Type 0) (at from count stretches size : ℕ)
    (cut classes : List ℕ) (workers : ℕ) (P : Type 0) (S : Stops) (f : RunFault) → at ≡ from
    → IsCutOf job at count size cut → count ≡ stretches → cut ≡ classes
    → IsStretchesFault (task_of job at wants means) size cut count workers P S f
    → IsStretchesFault (task_of job from wants means) (stretch_size
    (length classes) stretches) classes stretches workers P S f
fault_under {K} job wants means at from count stretches size cut classes workers P S f q is e same
    h =
    let task = task_of job from wants means in
    subst (λ n. IsStretchesFault task (stretch_size (length classes) n) classes n workers P S f) e
    (subst (λ l. IsStretchesFault task (stretch_size (length l) count) l count workers P S f) same
    (subst (λ n. IsStretchesFault task n cut count workers P S f) is.size_is
    (subst (λ n. IsStretchesFault (task_of job n wants means) size cut count workers P S f) q h)))

-- the errors of stretches are those of a run that waits for what they wait for
pub run_fault : {K : Type 0} (task : Task K) (size : ℕ) (classes : List ℕ) (stretches workers : ℕ)
    (P : Type 0) (S : Stops) (Waits : ℕ → ℕ → Type 0) (f : RunFault)
    → ((class block : ℕ) → StretchesWaitFor task size classes stretches workers S class block
    → Waits class block) → IsStretchesFault task size classes stretches workers P S f
    → IsFaultOfRun task.job workers P Waits f
run_fault {K} task size classes stretches workers P S Waits fault.Memory wait h = h
run_fault {K} task size classes stretches workers P S Waits fault.Threads wait h = h
run_fault {K} task size classes stretches workers P S Waits (fault.Unfinished class block) wait h =
    (h.0, h.1, h.2, h.3, h.4, wait class block h.5)
run_fault {K} task size classes stretches workers P S Waits f wait h = absurd h

-- under a gate that lets every piece pass
pub passing_fault : (job : Parts) (workers : ℕ) (P : Type 0) (Waits : ℕ → ℕ → Type 0)
    (f : RunFault) → P → IsFaultOfRun job workers P Waits f → IsOpenFault workers f
passing_fault job workers P Waits (fault.Unfinished class block) lets h = absurd (h.4 lets)
passing_fault job workers P Waits f lets h = h

-- and the errors of a run under such a gate are errors of any
pub fault_of_open : (job : Parts) (workers : ℕ) (P : Type 0) (Waits : ℕ → ℕ → Type 0)
    (f : RunFault) → IsOpenFault workers f → IsFaultOfRun job workers P Waits f
fault_of_open job workers P Waits (fault.Unfinished class block) h = absurd h
fault_of_open job workers P Waits f h = h

-- the classes of a list, cut into a number of stretches that suits the workers
pub list_fault : {K : Type 0} (task : Task K) (workers n : ℕ) (own classes : List ℕ) (P : Type 0)
    (S : Stops) (f : RunFault) → own ≡ classes → n ≡ stretches_for (length classes) workers
    → IsStretchesFault task (stretch_size (length own) n) own n workers P S f
    → IsListFault task classes workers P S f
list_fault {K} task workers n own classes P S f same e h =
    run_fault task (stretch_size (length classes) n) classes n workers P S
    (ListWaitsFor task classes workers S) f (λ class block waits. subst
    (λ k. StretchesWaitFor task (stretch_size (length classes) k) classes k workers S class block)
    e waits)
    (subst (λ l. IsStretchesFault task (stretch_size (length l) n) l n workers P S f) same h)

-- of a part
pub part_fault : (job : Parts) (parts part workers n : ℕ) (classes : List ℕ) (P : Type 0)
    (S : Stops) (f : RunFault) → ArePartOf job parts part classes
    → n ≡ stretches_for (length classes) workers
    → IsStretchesFault (first_tests job) (stretch_size (length classes) n) classes n workers P S f
    → IsPartFault job parts part workers P S f
part_fault job parts part workers n classes P S f own e h =
    run_fault (first_tests job) (stretch_size (length classes) n) classes n workers P S
    (PartWaitsFor job parts part workers S) f (λ class block waits. (
      classes,
      own,
      subst (λ k. StretchesWaitFor (first_tests job) (stretch_size (length classes) k) classes k
          workers S class block) e waits,
    )) h
