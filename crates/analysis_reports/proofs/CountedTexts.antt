-- From the counts of a job to the counts of the files that the job was read from.
use Rattle.std.{proofs.Common.{◌≡◌, ◌++◌, refl}, specs.Prelude.{ℕ, List, codes, decimal}}
use Rattle.bench_net.specs.Statement.{Statement}
use Rattle.fault_model.specs.Fault.{Fault}
use Rattle.analysis_reports.specs.Detected.{count_line}
use Rattle.report.specs.Report.{fault_text}

-- the line of a fault with the number of tests that detect it
pub is_count_line : (c : List Statement) (f : Fault) (count : ℕ) (said : List ℕ)
    → said ≡ decimal count
    → fault_text c f ++ (codes " " ++ said ++ codes "\n") ≡ count_line c (f, count)
is_count_line c f count said is = rw is refl
