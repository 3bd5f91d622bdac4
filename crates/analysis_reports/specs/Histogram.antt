-- The number of faults that each number of tests detects.
use Rattle.std.specs.Prelude.{◌≡◌, ◌+◌, ◌==◌, ℕ, Bool, List, ◌++◌, codes, count_by, decimal}
use Rattle.std.specs.Prelude.{flat_map, if◌then◌else◌, length, map, zip}
use Rattle.patterns.specs.Least.{below}
use Rattle.block_sim.specs.Parts.{Parts}
use Rattle.n_detect.specs.Detections.{AreCounts}
use Rattle.analysis_reports.specs.Detected.{detection_report}

-- 1 if this count is n, else 0; and the number of faults with the count n
abbrev pub one_with : ℕ → ℕ → ℕ
one_with n count = if count == n then 1 else 0

abbrev pub faults_with : List ℕ → ℕ → ℕ
faults_with counts n = count_by (λ count. count == n) counts

-- the number of faults for each count from 0 to the greatest
abbrev pub histogram : ℕ → List ℕ → List ℕ
histogram most counts = map (faults_with counts) (below (most + 1))

-- a line, `COUNT FAULTS`, and the lines of all counts from 0 on
abbrev pub histogram_line : ℕ × ℕ → List ℕ
histogram_line at = decimal at.0 ++ codes " " ++ decimal at.1 ++ codes "\n"

abbrev pub histogram_text : List ℕ → List ℕ
histogram_text faults = flat_map histogram_line (zip (below (length faults)) faults)

-- the bytes are the report of the counts of a job and their histogram
abbrev pub IsHistogramReportOfJob : Parts → ℕ → Bool → List ℕ → Type 0
IsHistogramReportOfJob job most list bytes = (counts : List ℕ)
    × AreCounts job.list.model job.circuit job.tests.tests most counts
    × (bytes ≡ detection_report job.list.model job.circuit most counts list
    ++ histogram_text (histogram most counts))
