-- Jobs to be run, whose tests may stand apart, and the ledgers of their runs.
use Rattle.std.specs.Prelude.{◌≡◌, ◌⊎◌, ⊤, ℕ, Bool, List, Option, Some, None, length, slice_get}
use Rattle.bench_net.specs.Scan.{sources}
use Rattle.patterns.specs.Tests.{IsTestList, TestList, blocks}
use Rattle.block_sim.specs.Parts.{Parts, with_tests}
use Rattle.fault_ledger.specs.Seats.{ClosedFace}
use Rattle.workers.specs.Verdict.{VerdictList}
use Rattle.region_sim.specs.ClassOrder.{AreAllByRegion}
use Rattle.region_runs.specs.Part.{ArePartOf, stretch_size, stretches_for}
use Rattle.region_runs.specs.declared.parts.PartVerdict.{PartVerdict}
use Rattle.region_runs.specs.declared.parts.PartVerdict.TheVariants.{First}
use Rattle.region_runs.specs.Stretches.{AreByStretches}
use Rattle.region_runs.specs.Tasks.{Task, first_tests}
use Rattle.region_runs.specs.WindowLedgers.{AreOfWindows}

-- the view that contracts have of such a job: its stretches, and whether its tests stand apart
pub record RunView : Type 0 where
  pub whole : Parts
  pub apart : Bool

-- the stretches of a job whose tests may stand apart
abbrev pub whole_of : Parts → Option TestList → Parts
whole_of job None = job
whole_of job (Some tests) = with_tests job tests

-- tests that stand apart are a list of the circuit's width
abbrev pub AreForCircuit : Parts → Option TestList → Type 0
AreForCircuit job None = ⊤
AreForCircuit job (Some tests) =
    IsTestList tests × (tests.width ≡ length (sources job.circuit))

-- What a goal keeps of the classes of a list was found stretch by stretch, in the order of ledgers
-- that hand out the stretches: one for the whole run, or one for each window of the tests.
abbrev pub AreKeptByLedgers : {K : Type 0} → Task K → ℕ → ℕ → List ℕ → List K → Type 0
AreKeptByLedgers task stretches workers classes kept =
    ((ledger : ClosedFace)
    × AreByStretches task (stretch_size (length classes) stretches) classes workers kept ledger)
    ⊎ AreOfWindows task workers classes (blocks (length task.job.tests.tests)) kept

-- So were the first tests of all classes, cut into this number of stretches. The verdict on a fault
-- is the first test that was found of its class.
pub record AreByLedgers (job : Parts) (stretches workers : ℕ) (v : VerdictList) : Type 0 where
  pub classes : List ℕ
  pub are : AreAllByRegion job classes
  pub firsts : List (Option ℕ)
  pub of : AreKeptByLedgers (first_tests job) stretches workers classes firsts
  pub each : (i class : ℕ) (first : Option ℕ) → slice_get job.classes.class_of i ≡ Some class
      → slice_get v.firsts i ≡ Some first
      → (k : ℕ) × (slice_get classes k ≡ Some class) × (slice_get firsts k ≡ Some first)

-- So were the first tests of the classes of a part, in a number of stretches that suits the
-- workers. The verdict on a fault of one of these is the first test that was found of its class.
pub record IsPartByLedgers (job : Parts) (parts part workers : ℕ)
    (verdicts : List PartVerdict) : Type 0 where
  pub classes : List ℕ
  pub are : ArePartOf job parts part classes
  pub firsts : List (Option ℕ)
  pub of : AreKeptByLedgers (first_tests job) (stretches_for (length classes) workers) workers
      classes firsts
  pub each : (i class : ℕ) (first : Option ℕ) → slice_get job.classes.class_of i ≡ Some class
      → slice_get verdicts i ≡ Some (First first)
      → (k : ℕ) × (slice_get classes k ≡ Some class) × (slice_get firsts k ≡ Some first)
