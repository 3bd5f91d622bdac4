-- The check of a file: the result of its reader, with the reader's error first among all errors.
use Rattle.std.specs.Prelude.{◌≡◌, ◌≤◌, ℕ, List, length, Option, Some, None}
use Rattle.bench_net.specs.declared.BenchFault.{BenchFault}
use Rattle.bench_net.specs.Circuit.{IsCircuit}
use Rattle.bench_net.specs.Refusal.{IsAccepted, IsRefused}
use Rattle.bench_net.specs.Scan.{sources}
use Rattle.bench_net.specs.Statement.{Statement}
use Rattle.patterns.specs.declared.TestFault.{TestFault}
use Rattle.patterns.specs.Tests.{HasTests, IsTestList, IsTestRefusal, TestList, max_pieces}
use Rattle.fault_model.specs.declared.Model.{Model}
use Rattle.block_sim.specs.Parts.{Parts, piece_count}
use Rattle.block_sim.specs.JobParts.{IsJobUnder}
use Rattle.job_loading.specs.Jobs.{IsJobOf, IsJobWithin}
use Rattle.input_check.specs.declared.bench.BenchCheck.{BenchCheck}
use Rattle.input_check.specs.declared.bench.BenchCheck.TheVariants as bench_check
use Rattle.input_check.specs.declared.tests.TestCheck.{TestCheck}
use Rattle.input_check.specs.declared.tests.TestCheck.TheVariants as test_check
use Rattle.input_check.specs.declared.answer.Answer.{Answer}
use Rattle.input_check.specs.declared.answer.Answer.TheVariants as answer
use Rattle.input_check.specs.Counts.{AreSizesOf, IsExcessOf}
use Rattle.input_check.specs.declared.finding.InputError.TheVariants as fault

-- a bench file is accepted with its circuit, and else has the first of the reported errors
abbrev pub IsBenchCheckOf : List ℕ → BenchCheck → Type 0
IsBenchCheckOf text (bench_check.Accepted circuit) = IsAccepted text circuit × IsCircuit circuit
IsBenchCheckOf text (bench_check.Refused findings) = (refusal : BenchFault)
    × (findings.first.fault ≡ fault.Bench refusal) × IsRefused text refusal

-- a test file is accepted with its tests for a circuit, and else has the first of the reported
-- errors
abbrev pub IsTestCheckOf : List ℕ → List Statement → TestCheck → Type 0
IsTestCheckOf text circuit (test_check.Accepted tests) =
    HasTests text (length (sources circuit)) tests × IsTestList tests
IsTestCheckOf text circuit (test_check.Refused findings) = (refusal : TestFault)
    × (findings.first.fault ≡ fault.Tests refusal)
    × IsTestRefusal text (length (sources circuit)) refusal

-- The result for a circuit and tests for it: the job of both is within the limit on pieces and has
-- these sizes, or exceeds the limit as reported.
abbrev pub IsTestsAnswer : Model → List Statement → TestList → Answer → Type 0
IsTestsAnswer m c tests (answer.Accepted sizes) = AreSizesOf m c (Some tests) sizes
    × (job : Parts) × IsJobUnder m c tests job × (piece_count job ≤ max_pieces)
IsTestsAnswer m c tests (answer.TooManyPieces excess) =
    (job : Parts) × IsJobUnder m c tests job × IsExcessOf job excess
IsTestsAnswer m c tests _ = ⊥

-- The result for a circuit and a test file: the file has the first of the reported errors, or tests
-- with this result.
abbrev pub IsTextAnswer : Model → List Statement → List ℕ → Answer → Type 0
IsTextAnswer m c text (answer.TestsRefused findings) = (refusal : TestFault)
    × (findings.first.fault ≡ fault.Tests refusal)
    × IsTestRefusal text (length (sources c)) refusal
IsTextAnswer m c text given = (tests : TestList) × HasTests text (length (sources c)) tests
    × IsTestsAnswer m c tests given

-- the result for a circuit, and for a test file if there is one
abbrev pub IsCircuitAnswer : Model → List Statement → Option (List ℕ) → Answer → Type 0
IsCircuitAnswer m c None (answer.Accepted sizes) = AreSizesOf m c None sizes
IsCircuitAnswer m c None _ = ⊥
IsCircuitAnswer m c (Some text) given = IsTextAnswer m c text given

-- The result for the files. A bench file with an error has the first of the reported errors. If it
-- is accepted, a test file with an error has its first one. If both are accepted, their job is
-- within the limit on pieces, and the sizes are theirs, or it exceeds the limit as reported.
abbrev pub IsAnswerTo : Model → List ℕ → Option (List ℕ) → Answer → Type 0
IsAnswerTo m bench tests (answer.BenchRefused findings) = (refusal : BenchFault)
    × (findings.first.fault ≡ fault.Bench refusal) × IsRefused bench refusal
IsAnswerTo m bench None (answer.Accepted sizes) = (c : List Statement) × IsAccepted bench c
    × AreSizesOf m c None sizes
IsAnswerTo m bench None _ = ⊥
IsAnswerTo m bench (Some text) (answer.TestsRefused findings) = (c : List Statement)
    × (refusal : TestFault) × IsAccepted bench c × (findings.first.fault ≡ fault.Tests refusal)
    × IsTestRefusal text (length (sources c)) refusal
IsAnswerTo m bench (Some text) (answer.TooManyPieces excess) = (job : Parts)
    × IsJobOf m bench text job × IsExcessOf job excess
IsAnswerTo m bench (Some text) (answer.Accepted sizes) = (c : List Statement)
    × (tests : TestList) × IsAccepted bench c × HasTests text (length (sources c)) tests
    × AreSizesOf m c (Some tests) sizes × (job : Parts) × IsJobWithin m bench text job
