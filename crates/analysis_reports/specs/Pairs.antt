-- The text of launch-on-capture pairs.
use Rattle.std.specs.Prelude.{◌≡◌, ◌⊎◌, ℕ, List, length}
use Rattle.bench_net.specs.Statement.{Statement}
use Rattle.bench_net.specs.Scan.{sources}
use Rattle.bench_net.specs.Refusal.{IsAccepted}
use Rattle.patterns.specs.declared.TestFault.TheVariants as test_fault
use Rattle.patterns.specs.Tests.{TestList, HasTests}
use Rattle.job_loading.specs.declared.fault.SimFault.{SimFault}
use Rattle.job_loading.specs.declared.fault.SimFault.TheVariants as fault
use Rattle.job_loading.specs.Jobs.{IsInputFault}
use Rattle.test_columns.specs.Files.{file_text}
use Rattle.pairs.specs.Pairs.{AreLaunchPairs, AreTooManyPairs}
use Rattle.analysis_reports.specs.Responses.{IsResponsesFault}

-- the bytes are the test file of the pairs of a bench file and a test file, and are read as these
-- pairs
abbrev pub ArePairsOf : List ℕ → List ℕ → List ℕ → Type 0
ArePairsOf bench text bytes = (c : List Statement) × (tests pairs : TestList)
    × IsAccepted bench c × HasTests text (length (sources c)) tests
    × AreLaunchPairs c tests.tests pairs.tests × (bytes ≡ file_text c pairs.tests)
    × HasTests bytes (length (sources c)) pairs

-- the pairs of the files are more rows than a test file may have
abbrev pub HasTooManyPairs : List ℕ → List ℕ → Type 0
HasTooManyPairs bench text = (c : List Statement) × (tests : TestList) × IsAccepted bench c
    × HasTests text (length (sources c)) tests × AreTooManyPairs (length tests.tests)

-- The condition of each error of the pairs: the errors of the two files, then too many pairs, then
-- an error of the output. An error of memory is possible at any time.
abbrev pub IsPairsFault : List ℕ → List ℕ → SimFault → Type 0
IsPairsFault bench text (fault.Tests test_fault.TooMany) =
    IsInputFault bench text (fault.Tests test_fault.TooMany) ⊎ HasTooManyPairs bench text
IsPairsFault bench text f = IsResponsesFault bench text f
