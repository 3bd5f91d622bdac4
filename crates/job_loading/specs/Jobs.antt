-- The job of two files, and the errors of reading one.
use Rattle.std.specs.Prelude.{◌≡◌, ◌⊎◌, ⊤, ℕ, ◌<◌, ◌≤◌, List, length}
use Rattle.bench_net.specs.declared.BenchFault.TheVariants as bench_fault
use Rattle.bench_net.specs.Statement.{Statement}
use Rattle.bench_net.specs.Scan.{sources}
use Rattle.bench_net.specs.Circuit.{IsCircuit}
use Rattle.bench_net.specs.Refusal.{IsAccepted, IsRefused}
use Rattle.fault_model.specs.declared.Model.{Model}
use Rattle.patterns.specs.declared.TestFault.TheVariants as test_fault
use Rattle.patterns.specs.Tests.{TestList, HasTests, IsTestList, IsTestRefusal, max_pieces}
use Rattle.block_sim.specs.declared.job.JobFault.TheVariants as job_fault
use Rattle.block_sim.specs.JobParts.{IsJobUnder}
use Rattle.block_sim.specs.Parts.{Parts, BelongTogether, piece_count}
use Rattle.job_loading.specs.declared.fault.SimFault.{SimFault}
use Rattle.job_loading.specs.declared.fault.SimFault.TheVariants as fault

-- the job of a bench file and a test file under a model: the circuit and the tests of the files,
-- with the circuit's faults and classes
abbrev pub IsJobOf : Model → List ℕ → List ℕ → Parts → Type 0
IsJobOf m bench text job = IsAccepted bench job.circuit
    × HasTests text (length (sources job.circuit)) job.tests × BelongTogether job
    × (job.list.model ≡ m)

-- the tests are tests for the circuit
pub record AreTestsFor (c : List Statement) (list : TestList) : Type 0 where
  pub circuit : IsCircuit c
  pub tests : IsTestList list
  pub width : list.width ≡ length (sources c)

-- the tests of a test file, if each source has one of the bits of its rows: they are read before
-- the number of sources is known
abbrev pub IsGuessOf : List ℕ → TestList → Type 0
IsGuessOf text tests = HasTests text tests.width tests × IsTestList tests

-- The error of the bench file or the test file. The bench file is read first.
abbrev pub IsInputFault : List ℕ → List ℕ → SimFault → Type 0
IsInputFault bench text (fault.Bench f) = (f ≡ bench_fault.Memory) ⊎ IsRefused bench f
IsInputFault bench text (fault.Tests f) = (c : List Statement) × IsAccepted bench c
    × ((f ≡ test_fault.Memory) ⊎ IsTestRefusal text (length (sources c)) f)
IsInputFault bench text _ = ⊥

-- the error of a job of a circuit and of tests: its number of pieces, or memory
abbrev pub IsPiecesFault : Model → List Statement → TestList → SimFault → Type 0
IsPiecesFault m c tests (fault.Job f) = (f ≡ job_fault.Memory)
    ⊎ ((job : Parts) × IsJobUnder m c tests job × (max_pieces < piece_count job))
IsPiecesFault m c tests fault.Memory = ⊤
IsPiecesFault m c tests _ = ⊥

-- The errors of reading a job: the errors of the two files, and then the number of pieces.
abbrev pub IsJobFault : Model → List ℕ → List ℕ → SimFault → Type 0
IsJobFault m bench text (fault.Job f) = (f ≡ job_fault.Memory)
    ⊎ ((job : Parts) × IsJobOf m bench text job × (max_pieces < piece_count job))
IsJobFault m bench text fault.Memory = ⊤
IsJobFault m bench text f = IsInputFault bench text f

-- the job of the files, within the limit on pieces
abbrev pub IsJobWithin : Model → List ℕ → List ℕ → Parts → Type 0
IsJobWithin m bench text job = IsJobOf m bench text job × (piece_count job ≤ max_pieces)

-- The error of the bench file or the test file of a job of any size.
abbrev pub IsReadFault : List ℕ → List ℕ → SimFault → Type 0
IsReadFault bench text fault.Memory = ⊤
IsReadFault bench text f = IsInputFault bench text f
