-- The text of the responses of a circuit.
use Rattle.std.specs.Prelude.{◌≡◌, ⊤, List, ℕ, length}
use Rattle.bench_net.specs.Statement.{Statement}
use Rattle.bench_net.specs.Scan.{sources}
use Rattle.bench_net.specs.Refusal.{IsAccepted}
use Rattle.patterns.specs.Making.{test_text}
use Rattle.patterns.specs.Tests.{TestList, HasTests}
use Rattle.block_sim.specs.Responses.{AreResponses}
use Rattle.job_loading.specs.declared.fault.SimFault.{SimFault}
use Rattle.job_loading.specs.declared.fault.SimFault.TheVariants as fault
use Rattle.job_loading.specs.Jobs.{IsInputFault}

-- the bytes are the responses of a bench file to a test file: for each test a row of bits
abbrev pub AreResponsesOf : List ℕ → List ℕ → List ℕ → Type 0
AreResponsesOf bench text bytes = (c : List Statement) × (tests rows : TestList)
    × IsAccepted bench c × HasTests text (length (sources c)) tests
    × AreResponses c tests.tests rows × (bytes ≡ test_text rows.tests)

-- both files are accepted
abbrev pub AreInputs : List ℕ → List ℕ → Type 0
AreInputs bench text = (c : List Statement) × (tests : TestList) × IsAccepted bench c
    × HasTests text (length (sources c)) tests

-- The condition of each error of the responses: the errors of the two files, then an error of the
-- output. An error of memory is possible at any time.
abbrev pub IsResponsesFault : List ℕ → List ℕ → SimFault → Type 0
IsResponsesFault bench text fault.Memory = ⊤
IsResponsesFault bench text (fault.Report f) = AreInputs bench text
IsResponsesFault bench text f = IsInputFault bench text f
