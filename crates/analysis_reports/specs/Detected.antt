-- The text of the detection counts of faults.
use Rattle.std.specs.Prelude.{◌≡◌, ℕ, Bool, List, [], ◌++◌, count_by, codes, decimal}
use Rattle.std.specs.Prelude.{flat_map, if◌then◌else◌, length, nat_le, zip}
use Rattle.bench_net.specs.Statement.{Statement}
use Rattle.fault_model.specs.declared.Model.{Model}
use Rattle.fault_model.specs.Fault.{Fault, faults}
use Rattle.block_sim.specs.Parts.{Parts}
use Rattle.n_detect.specs.Detections.{AreCounts}
use Rattle.report.specs.Report.{coverage_line, fault_text}

-- a line: `FAULT COUNT`
abbrev pub count_line : List Statement → Fault × ℕ → List ℕ
count_line c at = fault_text c at.0 ++ (codes " " ++ decimal at.1 ++ codes "\n")

-- the number of faults that at least this many tests detect
abbrev pub reached_count : ℕ → List ℕ → ℕ
reached_count most counts = count_by (nat_le most) counts

-- the report: the line of each fault if they are requested, and the coverage line of the faults
-- that at least this many tests detect
abbrev pub detection_report : Model → List Statement → ℕ → List ℕ → Bool → List ℕ
detection_report m c most counts list =
    (if list then flat_map (count_line c) (zip (faults m c) counts) else [])
    ++ coverage_line (reached_count most counts) (length counts)

-- the bytes are this report of a job: each fault has the number of tests that detect it, counted up
-- to this limit
abbrev pub IsDetectionReportOfJob : Parts → ℕ → Bool → List ℕ → Type 0
IsDetectionReportOfJob job most list bytes = (counts : List ℕ)
    × AreCounts job.list.model job.circuit job.tests.tests most counts
    × (bytes ≡ detection_report job.list.model job.circuit most counts list)
