-- The text of pairs, and its errors.
use Rattle.std.proofs.Common.{◌≡◌, ◌∙◌, ◌++◌, ℕ, List, ap, inl, length, subst}
use Rattle.bench_net.specs.{Refusal.IsAccepted, Scan.sources, Statement.Statement}
use Rattle.patterns.specs.declared.TestFault.TheVariants as test_fault
use Rattle.patterns.specs.{Making.test_text, Tests.{TestList, HasTests}}
use Rattle.test_columns.specs.Columns.{columns_line}
use Rattle.job_loading.specs.{declared.fault.SimFault.SimFault, Jobs.IsInputFault}
use Rattle.job_loading.specs.declared.fault.SimFault.TheVariants as fault
use Rattle.pairs.specs.Pairs.{AreLaunchPairs}
use Rattle.analysis_reports.specs.Pairs.{ArePairsOf, IsPairsFault}

-- an error of the files is an error of the pairs
pub pairs_input_fault : (bench text : List ℕ) (f : SimFault) → IsInputFault bench text f
    → IsPairsFault bench text f
pairs_input_fault bench text (fault.Tests test_fault.TooMany) h = inl h
pairs_input_fault bench text (fault.Tests (test_fault.BadByte line)) h = h
pairs_input_fault bench text (fault.Tests (test_fault.BadWidth line)) h = h
pairs_input_fault bench text (fault.Tests test_fault.Memory) h = h
pairs_input_fault bench text (fault.Bench f) h = h
pairs_input_fault bench text (fault.Order f) h = absurd h
pairs_input_fault bench text (fault.Job f) h = absurd h
pairs_input_fault bench text (fault.Run f) h = absurd h
pairs_input_fault bench text (fault.Report f) h = absurd h
pairs_input_fault bench text fault.Memory h = tt

-- the text that was made is the test file of the pairs, and is read as them
pub pairs_made : (bench text bytes line : List ℕ) (c : List Statement) (tests pairs : TestList)
    → IsAccepted bench c → HasTests text (length (sources c)) tests
    → AreLaunchPairs c tests.tests pairs.tests → pairs.width ≡ length (sources c)
    → line ≡ columns_line (sources c) → bytes ≡ line ++ test_text pairs.tests
    → HasTests bytes pairs.width pairs → ArePairsOf bench text bytes
pairs_made bench text bytes line c tests pairs accepted has launched width named joined read = (
  c,
  tests,
  pairs,
  accepted,
  has,
  launched,
  joined ∙ ap (λ l. l ++ test_text pairs.tests) named,
  subst (λ n. HasTests bytes n pairs) width read,
)
