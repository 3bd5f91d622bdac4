-- The curve of a run: the number of faults that are detected up to each test.
use Rattle.std.specs.Prelude.{◌≡◌, ℕ, nat_le, Bool, false, List, ◌++◌, map, filter, flat_map}
use Rattle.std.specs.Prelude.{length, Option, Some, None, count_by, codes, decimal, if◌then◌else◌}
use Rattle.patterns.specs.Least.{below}
use Rattle.block_sim.specs.Parts.{Parts}
use Rattle.workers.specs.Verdict.{AreFirsts, detected_count}
use Rattle.compaction.specs.Compaction.{finds, is_first}
use Rattle.report.specs.declared.curve.CurvePoint.{CurvePoint}
use Rattle.report.specs.Report.{coverage_line, percentage}

-- whether a fault's first test is this one or one before it
abbrev pub is_found_by : ℕ → Option ℕ → Bool
is_found_by t None = false
is_found_by t (Some first) = nat_le first t

-- 1 if a fault with this first test is counted at a test, else 0
abbrev pub counts_at : ℕ → Option ℕ → ℕ
counts_at t first = if is_first t first then 1 else 0

-- the number of faults with this first test, and the number of faults with a first test up to it
abbrev pub news_at : List (Option ℕ) → ℕ → ℕ
news_at firsts t = count_by (is_first t) firsts

abbrev pub found_by : List (Option ℕ) → ℕ → ℕ
found_by firsts t = count_by (is_found_by t) firsts

-- the point of a test
abbrev pub point_at : List (Option ℕ) → ℕ → CurvePoint
point_at firsts t = record {
  test = t;
  gained = news_at firsts t;
  detected = found_by firsts t;
}

-- the points of the tests that detect a fault first, in order, for this number of tests
abbrev pub curve : ℕ → List (Option ℕ) → List CurvePoint
curve count firsts = map (point_at firsts) (filter (finds firsts) (below count))

-- a line of the curve, `TEST DETECTED P.PP`, for this number of faults
abbrev pub point_line : ℕ → CurvePoint → List ℕ
point_line total point = decimal point.test ++ codes " " ++ decimal point.detected ++ codes " "
    ++ percentage point.detected total ++ codes "\n"

-- the text of points: one line for each, and the coverage line
abbrev pub curve_text : List CurvePoint → List (Option ℕ) → List ℕ
curve_text points firsts = flat_map (point_line (length firsts)) points
    ++ coverage_line (detected_count firsts) (length firsts)

-- the bytes are the curve of a job
abbrev pub IsCurveOfJob : Parts → List ℕ → Type 0
IsCurveOfJob job bytes = (firsts : List (Option ℕ))
    × AreFirsts job.list.model job.circuit job.tests.tests firsts
    × (bytes ≡ curve_text (curve (length job.tests.tests) firsts) firsts)
