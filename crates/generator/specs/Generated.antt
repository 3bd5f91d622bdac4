-- The results of a generator, and its errors.
use Rattle.std.specs.Prelude.{◌≡◌, ◌⊎◌, ⊤, ℕ, ◌*◌, ◌<◌, ◌≤◌, Bool, List, Contains, length}
use Rattle.std.specs.Prelude.{Option, Some}
use Rattle.bench_net.specs.declared.BenchFault.TheVariants as bench_fault
use Rattle.bench_net.specs.Refusal.{IsAccepted, IsRefused}
use Rattle.bench_net.specs.Scan.{sources}
use Rattle.bench_net.specs.Statement.{Statement}
use Rattle.fault_model.specs.declared.Model.{Model}
use Rattle.fault_model.specs.Detection.{DetectsAt}
use Rattle.fault_model.specs.Fault.{Fault, faults}
use Rattle.patterns.specs.Tests.{HasTests, TestList, blocks, max_pieces}
use Rattle.patterns.specs.declared.TestFault.TheVariants as test_fault
use Rattle.test_columns.specs.Columns.{columns}
use Rattle.test_columns.specs.Files.{file_text}
use Rattle.block_sim.specs.declared.job.JobFault.TheVariants as job_fault
use Rattle.block_sim.specs.Parts.{Parts}
use Rattle.compaction.specs.Compaction.{IsCompaction}
use Rattle.region_runs.specs.Refused.{IsOpenFault}
use Rattle.job_loading.specs.declared.fault.SimFault.{SimFault}
use Rattle.job_loading.specs.declared.fault.SimFault.TheVariants as fault
use Rattle.job_loading.specs.Jobs.{IsJobWithin}
use Rattle.generator.specs.declared.GeneratorFault.{GeneratorFault}
use Rattle.generator.specs.declared.GeneratorFault.TheVariants as generator_fault
use Rattle.generator.specs.declared.held.Held.{Held}
use Rattle.generator.specs.Held.{AreHeldBits, AreHolding, IsHeldFault}
use Rattle.generator.specs.RandomTests.{IsRound}

-- The text is the file of some tests for the circuit of the bench file. It is read as these tests,
-- and the columns that it names are the circuit's sources, in their order.
abbrev pub NamesColumns : List ℕ → List ℕ → Type 0
NamesColumns bench text = (c : List Statement) × (tests : TestList) × IsAccepted bench c
    × (text ≡ file_text c tests.tests) × HasTests text (length (sources c)) tests
    × (columns text ≡ Some (record { line = 1; names = sources c }))

-- the text is a file of at most this many tests for the circuit of the bench file
abbrev pub HasFewRows : List ℕ → ℕ → List ℕ → Type 0
HasFewRows bench most text = (c : List Statement) × (tests : List (List Bool))
    × IsAccepted bench c × (text ≡ file_text c tests) × (length tests ≤ most)

-- The text is a file of tests that are a compaction of others, for the circuit of a bench file
-- under a model. So each of them is needed to detect the faults that the others detect. Nothing is
-- stated about the faults that the others detect.
abbrev pub IsCompacted : Model → List ℕ → List ℕ → Type 0
IsCompacted m bench text = (c : List Statement) × (found kept : List (List Bool))
    × IsAccepted bench c × IsCompaction m c found kept
    × (text ≡ file_text c kept)

-- some test of the list detects some fault of the model
abbrev pub DetectsSome : Model → List Statement → List (List Bool) → Type 0
DetectsSome m c tests = (f : Fault) × (t : ℕ) × Contains (faults m c) f × DetectsAt c tests f t

-- one of the first two tests detects some fault of the model
abbrev pub DetectsEarly : Model → List Statement → List (List Bool) → Type 0
DetectsEarly m c tests = (f : Fault) × (t : ℕ) × (t < 2) × Contains (faults m c) f
    × DetectsAt c tests f t

-- no test of this round of a seed detects a fault
abbrev pub IsInVain : Model → List Statement → List (Option Bool) → ℕ → ℕ → ℕ → Type 0
IsInVain m c bits seed blocks k = (tests : TestList)
    × IsRound seed (length (sources c)) blocks bits k tests × ¬ DetectsSome m c tests.tests

-- A search finds nothing if there is no fault, or if none of its random tests detects one. These
-- are the tests of the first rounds of its seed, all of the same size: at least 20 blocks. Held
-- columns have their bits.
abbrev pub FindsNone : Model → List Statement → List (Option Bool) → ℕ → Type 0
FindsNone m c bits seed = ((f : Fault) → ¬ Contains (faults m c) f)
    ⊎ ((blocks : ℕ) × (rounds : ℕ) × (20 ≤ rounds * blocks)
    × ((k : ℕ) → k < rounds → IsInVain m c bits seed blocks k))

-- The text is a file of tests of which one detects a fault, unless a search finds nothing for the
-- circuit of the bench file.
abbrev pub DetectsIfFound : Model → List ℕ → List Held → ℕ → List ℕ → Type 0
DetectsIfFound m bench held seed text = (c : List Statement) × (bits : List (Option Bool))
    × (tests : List (List Bool)) × IsAccepted bench c × AreHeldBits c held bits
    × (text ≡ file_text c tests) × (DetectsSome m c tests ⊎ FindsNone m c bits seed)

-- The text is a file of tests for the circuit of the bench file, in each of which the held inputs
-- have their bits.
abbrev pub HoldsInputs : List ℕ → List Held → List ℕ → Type 0
HoldsInputs bench held text = (c : List Statement) × (tests : List (List Bool))
    × IsAccepted bench c × (text ≡ file_text c tests) × AreHolding c held tests

-- the two files have a job under the model, within the limit of pieces
abbrev pub HasJob : Model → List ℕ → List ℕ → Type 0
HasJob m bench text = (job : Parts) × IsJobWithin m bench text job

-- this many classes on the blocks of this many tests are within the limit of pieces
abbrev pub AreFewPieces : ℕ → ℕ → Type 0
AreFewPieces classes tests = classes * blocks tests ≤ max_pieces

-- The condition of each error of the search. Memory may be refused at any time, and this is the
-- only error of a job: no round makes too many pieces.
abbrev pub IsWorkFault : ℕ → SimFault → Type 0
IsWorkFault workers (fault.Run f) = IsOpenFault workers f
IsWorkFault workers (fault.Job f) = f ≡ job_fault.Memory
IsWorkFault workers fault.Memory = ⊤
IsWorkFault workers _ = ⊥

-- the same for a run, which reads the bench file first; the only error of its own test file is
-- refused memory
abbrev pub IsFaultOfRun : List ℕ → ℕ → SimFault → Type 0
IsFaultOfRun bench workers (fault.Bench f) = (f ≡ bench_fault.Memory) ⊎ IsRefused bench f
IsFaultOfRun bench workers (fault.Tests f) = f ≡ test_fault.Memory
IsFaultOfRun bench workers f = IsWorkFault workers f

-- The same for the generator, which reads the bench file, and then looks for the held inputs.
abbrev pub IsGeneratorFault : List ℕ → List Held → ℕ → GeneratorFault → Type 0
IsGeneratorFault bench held workers (generator_fault.Sim f) = IsFaultOfRun bench workers f
IsGeneratorFault bench held workers (generator_fault.Held f) = (c : List Statement)
    × IsAccepted bench c × IsHeldFault c held f

-- the error of held inputs for a circuit
abbrev pub IsFaultOfHeld : List Statement → List Held → GeneratorFault → Type 0
IsFaultOfHeld c held (generator_fault.Sim f) = f ≡ fault.Memory
IsFaultOfHeld c held (generator_fault.Held f) = IsHeldFault c held f
