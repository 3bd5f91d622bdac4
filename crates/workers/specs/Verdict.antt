-- The verdicts of a run.
use Rattle.std.specs.Prelude.{◌≡◌, ◌<◌, ◌+◌, ◌-◌, ◌/◌, ℕ, List, map, length, is_some, count_by}
use Rattle.std.specs.Prelude.{slice_get, Option, Some, None}
use Rattle.std.specs.List.{sum_by}
use Rattle.bench_net.specs.Statement.{Statement}
use Rattle.fault_model.specs.declared.Model.{Model}
use Rattle.fault_model.specs.Fault.{Fault, faults}
use Rattle.fault_model.specs.Collapse.{IsClassOf}
use Rattle.fault_model.specs.Detection.{DetectsAt}
use Rattle.fault_model.specs.Solution.{Test}
use Rattle.patterns.specs.Tests.{blocks}
use Rattle.block_sim.specs.First.{IsFirst}
use Rattle.block_sim.specs.Parts.{Parts}
use Rattle.fault_ledger.specs.declared.Shape.{Shape}
use Rattle.fault_ledger.specs.declared.Status.{Status}
use Rattle.fault_ledger.specs.declared.Status.TheVariants.{Settled, Waiting}
use Rattle.fault_ledger.specs.History.{History}
use Rattle.fault_ledger.specs.Settled.{status}

-- the verdicts as contracts see them: a test or none for each fault, and the number of skipped
-- pieces
pub record VerdictList : Type 0 where
  pub firsts : List (Option ℕ)
  pub skipped : ℕ

-- the test at which a settled class is settled, or none
abbrev pub settled_at : Status → Option ℕ
settled_at (Settled at) = at
settled_at (Waiting block) = None

-- the verdict of each fault after a finished history: its class's verdict
abbrev pub verdicts : Shape → History → List ℕ → List (Option ℕ)
verdicts shape h class_of = map (λ class. settled_at (status shape h class)) class_of

-- the first of the tests below this number that detects the fault, or none if none of them does
abbrev pub IsFirstBelow : List Statement → List Test → ℕ → Fault → Option ℕ → Type 0
IsFirstBelow c tests end f (Some t) = (t < end) × DetectsAt c tests f t
    × ((earlier : ℕ) → earlier < t → ¬ DetectsAt c tests f earlier)
IsFirstBelow c tests end f None = (t : ℕ) → t < end → ¬ DetectsAt c tests f t

-- for each class of a list the first test that detects its faults, or none if no test does
pub record AreClassFirsts (m : Model) (c : List Statement) (tests : List Test) (classes : List ℕ)
    (firsts : List (Option ℕ)) : Type 0 where
  pub count : length firsts ≡ length classes
  pub first : (k class : ℕ) (f : Fault) (first : Option ℕ) → slice_get classes k ≡ Some class
      → IsClassOf m c f class → slice_get firsts k ≡ Some first → IsFirst c tests f first

-- the number of detected faults
abbrev pub detected_count : List (Option ℕ) → ℕ
detected_count firsts = count_by is_some firsts

-- each fault of the circuit's uncollapsed list has the first test that detects it, or none if no
-- test does
pub record AreFirsts (m : Model) (c : List Statement) (tests : List Test)
    (firsts : List (Option ℕ)) : Type 0 where
  pub count : length firsts ≡ length (faults m c)
  pub first : (i : ℕ) (f : Fault) (first : Option ℕ) → slice_get (faults m c) i ≡ Some f
      → slice_get firsts i ≡ Some first → IsFirst c tests f first

-- the number of blocks after the block of a first test, none if there is no test
abbrev pub blocks_after : ℕ → Option ℕ → ℕ
blocks_after n None = 0
blocks_after n (Some test) = n - (test / 64 + 1)

-- the number of such pieces of all classes
abbrev pub pieces_after : ℕ → List (Option ℕ) → ℕ
pieces_after n firsts = sum_by (blocks_after n) firsts

-- The number of pieces of a job after the first hits of their classes. Each class, by its number,
-- has its first test, or none if no test detects it.
pub record AreAfterHits (job : Parts) (skipped : ℕ) : Type 0 where
  pub firsts : List (Option ℕ)
  pub count : length firsts ≡ length job.classes.representative
  pub first : (class : ℕ) (f : Fault) (first : Option ℕ)
      → IsClassOf job.list.model job.circuit f class → slice_get firsts class ≡ Some first
      → IsFirst job.circuit job.tests.tests f first
  pub number : skipped ≡ pieces_after (blocks (length job.tests.tests)) firsts
