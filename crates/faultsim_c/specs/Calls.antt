-- The results of calls from C.
use Rattle.std.specs.Prelude.{◌≡◌, ℕ, ◌+◌, ◌*◌, ◌<◌, ◌≤◌, [], ◌++◌, All, Bool, List, length, drop}
use Rattle.std.specs.Prelude.{map, false, true}
use Rattle.std.specs.Prelude.{Option, Some, None}
use Rattle.std.specs.Prelude.{slice_get, slice_index, slice_index_or, nat_eq, if◌then◌else◌}
use Rattle.bench_net.specs.Refusal.{IsAccepted}
use Rattle.bench_net.specs.Scan.{names, observers, signal, sources}
use Rattle.bench_net.specs.Statement.{Statement}
use Rattle.fault_model.specs.declared.Model.{Model}
use Rattle.fault_model.specs.declared.Model.TheVariants.{StuckAt, Transition, TransitionPairs}
use Rattle.fault_model.specs.Collapse.{IsClassOf}
use Rattle.fault_model.specs.Fault.{Fault, faults}
use Rattle.patterns.specs.Tests.{HasTests, blocks}
use Rattle.block_sim.specs.First.{IsFirst}
use Rattle.block_sim.specs.Flips.{AreObserving}
use Rattle.block_sim.specs.Parts.{BelongTogether, Parts}
use Rattle.flat_circuit.specs.Regions.{IsStemOfClass}
use Rattle.flat_circuit.specs.Words.{IsFaultFreeWord}
use Rattle.report.specs.declared.contents.Contents.{Contents}
use Rattle.report.specs.declared.contents.Lines.{Lines}
use Rattle.report.specs.declared.contents.Lines.TheVariants.{Omitted, Undetected}
use Rattle.report.specs.declared.contents.Lines.TheVariants as lines
use Rattle.faultsim_c.specs.declared.FsSizes.{FsSizes}
use Rattle.faultsim_c.specs.declared.holding.Holding.{Holding}

-- the job of a handle, by its contents
abbrev pub job_of : Option Holding → Option Parts
job_of (Some h) = Some h.session
job_of None = None

-- the contents of a handle that shares its job with no other
abbrev pub alone_with : Parts → Holding
alone_with parts = record { session = parts; alone = true }

-- the contents of a handle that got its job from another one, or gave it to one
abbrev pub shared_with : Parts → Holding
shared_with parts = record { session = parts; alone = false }

-- the numbers of the models
abbrev pub IsModelNumber : ℕ → Model → Type 0
IsModelNumber n StuckAt = n ≡ 0
IsModelNumber n Transition = n ≡ 1
IsModelNumber n TransitionPairs = n ≡ 2

-- the job of a bench file, without tests
abbrev pub IsCircuitJob : Model → List ℕ → Parts → Type 0
IsCircuitJob m bench parts = IsAccepted bench parts.circuit × BelongTogether parts
    × (parts.list.model ≡ m) × (parts.tests.tests ≡ [])

-- the sizes of a job
pub record AreSizes (parts : Parts) (sizes : FsSizes) : Type 0 where
  pub source_count : sizes.sources ≡ length (sources parts.circuit)
  pub signal_count : sizes.signals ≡ length (names parts.circuit)
  pub fault_count : sizes.faults ≡ length parts.list.list
  pub class_count : sizes.classes ≡ length parts.classes.representative
  pub test_count : sizes.tests ≡ length parts.tests.tests
  pub block_count : sizes.blocks ≡ blocks (length parts.tests.tests)

-- the test of a number; the greatest u32 means none
abbrev pub first_of : ℕ → Option ℕ
first_of n = if nat_eq n 4294967295 then None else Some n

-- a list of classes, with as much room for the first tests
abbrev pub AreRequests : Parts → List ℕ → List ℕ → Type 0
AreRequests parts classes firsts = (length firsts ≡ length classes)
    × All (λ class. class < length parts.classes.representative) classes

-- for each class of a list the first test that detects the faults of the class, or none
pub record AreFirsts (parts : Parts) (classes firsts : List ℕ) : Type 0 where
  pub count : length firsts ≡ length classes
  pub first : (k class n : ℕ) (f : Fault) → slice_get classes k ≡ Some class
      → IsClassOf parts.list.model parts.circuit f class
      → slice_get firsts k ≡ Some n → IsFirst parts.circuit parts.tests.tests f (first_of n)

-- for each fault of the list the first test that detects it, or none
abbrev pub AreFaultFirsts : Parts → List ℕ → Type 0
AreFaultFirsts parts firsts = (i : ℕ) (f : Fault)
    → slice_get (faults parts.list.model parts.circuit) i ≡ Some f
    → IsFirst parts.circuit parts.tests.tests f (first_of (slice_index firsts i))

-- the job of a bench file and a test file
abbrev pub IsJobOfTexts : Model → List ℕ → List ℕ → Parts → Type 0
IsJobOfTexts m bench text parts = IsAccepted bench parts.circuit × (parts.list.model ≡ m)
    × HasTests text (length (sources parts.circuit)) parts.tests

-- the number of a first test, or of none
abbrev pub first_number : Option ℕ → ℕ
first_number (Some t) = t
first_number None = 4294967295

-- numbers of first tests, each at its place
pub record AreFirstNumbers (found : List (Option ℕ)) (firsts : List ℕ) : Type 0 where
  pub count : length firsts ≡ length found
  pub each : (k : ℕ) → k < length found
      → slice_index firsts k ≡ first_number (slice_index_or found k None)

-- the class of each fault, at its place
abbrev pub AreClassesOf : Parts → List ℕ → Type 0
AreClassesOf parts classes = (fault : ℕ) → fault < length parts.list.list
    → slice_index classes fault ≡ slice_index parts.classes.class_of fault

-- the number of the signal at which the region of the class ends
pub record IsStemAt (parts : Parts) (class stem : ℕ) : Type 0 where
  pub is : IsStemOfClass parts.list.model parts.circuit class stem

-- the stem of each class, at its place
abbrev pub AreStemsOf : Parts → List ℕ → Type 0
AreStemsOf parts stems = (class : ℕ) → class < length parts.classes.representative
    → IsStemAt parts class (slice_index stems class)

-- bytes are copied to the front of a text that has room for them, and their number is written
abbrev pub IsCopied : List ℕ → List ℕ → List ℕ → ℕ → ℕ → Type 0
IsCopied bytes old new wanted status = (wanted ≡ length bytes)
    × (length bytes ≤ length old → (status ≡ 0) × (new ≡ bytes ++ drop (length bytes) old))
    × (length old < length bytes → (status ≡ 4) × (new ≡ old))

-- the numbers that choose which faults have a line
abbrev pub IsLinesNumber : ℕ → Lines → Type 0
IsLinesNumber n Omitted = n ≡ 0
IsLinesNumber n lines.All = n ≡ 1
IsLinesNumber n Undetected = n ≡ 2

-- the contents of a report by a number and a choice
pub record AreContents (lines : ℕ) (classes : Bool) (contents : Contents) : Type 0 where
  pub number : IsLinesNumber lines contents.lines
  pub choice : contents.classes ≡ classes

-- the signals of the observers: of the OUTPUT lines in order, and then of the cells' data pins
abbrev pub observed : List Statement → List ℕ
observed c = map (λ o. signal c o.1) (observers c)

-- the words of the observers under all tests: on each block one for each observer
pub record AreResponseWords (parts : Parts) (words : List ℕ) : Type 0 where
  pub count : length words
      ≡ blocks (length parts.tests.tests) * length (observed parts.circuit)
  pub each : (block place : ℕ) → block < blocks (length parts.tests.tests)
      → place < length (observed parts.circuit)
      → IsFaultFreeWord parts.circuit parts.tests.tests block
      (slice_index (observed parts.circuit) place)
      (slice_index words (block * length (observed parts.circuit) + place))

-- a list of signals, with as much room for their words
abbrev pub AreSignals : Parts → List ℕ → List ℕ → Type 0
AreSignals parts signals lanes = (length lanes ≡ length signals)
    × All (λ s. s < length (names parts.circuit)) signals

-- for each signal of a list the lanes of the tests of a block that detect it complemented
pub record AreObserved (parts : Parts) (block : ℕ) (signals lanes : List ℕ) : Type 0 where
  pub count : length lanes ≡ length signals
  pub each : (k s word : ℕ) → slice_get signals k ≡ Some s → slice_get lanes k ≡ Some word
      → AreObserving parts.circuit parts.tests.tests s block word
