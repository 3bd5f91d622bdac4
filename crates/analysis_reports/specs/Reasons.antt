-- The text of the undetected faults with their reasons.
use Rattle.std.specs.Prelude.{◌≡◌, ℕ, Bool, true, false, List, [], ◌++◌, codes, count_by, decimal}
use Rattle.std.specs.Prelude.{flat_map, Option, Some, None, zip}
use Rattle.std.specs.List.{slice_range}
use Rattle.bench_net.specs.Statement.{Statement}
use Rattle.fault_model.specs.declared.Model.{Model}
use Rattle.fault_model.specs.Collapse.{Collapsed}
use Rattle.fault_model.specs.Fault.{Fault, faults}
use Rattle.block_sim.specs.Parts.{Parts}
use Rattle.workers.specs.Verdict.{AreFirsts}
use Rattle.region_runs.specs.declared.watch.ReasonCounts.{ReasonCounts}
use Rattle.undetected.specs.declared.Reason.{Reason}
use Rattle.undetected.specs.declared.Reason.TheVariants.{NoPath, NotActivated, NotObserved}
use Rattle.undetected.specs.Reasons.{AreReasons}
use Rattle.report.specs.declared.contents.Lines.TheVariants.{Omitted}
use Rattle.report.specs.Report.{fault_text, whole_report}

-- a reason in words
abbrev pub reason_text : Reason → List ℕ
reason_text NoPath = codes "no path"
reason_text NotActivated = codes "not activated"
reason_text NotObserved = codes "not observed"

-- the line of a fault that has a reason, `FAULT none REASON`; a fault without a reason has no line
abbrev pub reason_line : List Statement → Fault × Option Reason → List ℕ
reason_line c (f, None) = []
reason_line c (f, Some reason) =
    fault_text c f ++ (codes " none " ++ reason_text reason ++ codes "\n")

-- the lines of the faults of a list from one number up to another
abbrev pub reasons_between : List Statement → List Fault → List (Option Reason) → ℕ → ℕ → List ℕ
reasons_between c fs reasons start end =
    flat_map (reason_line c) (slice_range (zip fs reasons) start end)

-- whether this is the reason
abbrev pub has_reason : Reason → Option Reason → Bool
has_reason NoPath (Some NoPath) = true
has_reason NotActivated (Some NotActivated) = true
has_reason NotObserved (Some NotObserved) = true
has_reason _ _ = false

-- the number of faults with a reason, and the last line, `N no path, N not activated, N not
-- observed`
abbrev pub reason_count : Reason → List (Option Reason) → ℕ
reason_count reason reasons = count_by (has_reason reason) reasons

abbrev pub reasons_line : List (Option Reason) → List ℕ
reasons_line reasons = decimal (reason_count NoPath reasons) ++ codes " no path, "
    ++ decimal (reason_count NotActivated reasons) ++ codes " not activated, "
    ++ decimal (reason_count NotObserved reasons) ++ codes " not observed\n"

-- the number of faults for each reason
abbrev pub reason_counts_of : List (Option Reason) → ReasonCounts
reason_counts_of reasons = record {
  no_path = reason_count NoPath reasons;
  not_activated = reason_count NotActivated reasons;
  not_observed = reason_count NotObserved reasons;
}

-- the report without lines of faults, and the number of faults for each reason
abbrev pub reason_totals : Model → List Statement → Collapsed → List (Option ℕ)
    → List (Option Reason) → Bool → List ℕ
reason_totals m c classes firsts reasons wanted =
    whole_report m c classes firsts (record { lines = Omitted; classes = wanted })
    ++ reasons_line reasons

-- the report: the line of each fault that has a reason, and the totals
abbrev pub reason_report : Model → List Statement → Collapsed → List (Option ℕ)
    → List (Option Reason) → Bool → List ℕ
reason_report m c classes firsts reasons wanted =
    flat_map (reason_line c) (zip (faults m c) reasons)
    ++ reason_totals m c classes firsts reasons wanted

-- the bytes are the report of a job: each fault has the first test that detects it, or none, and
-- then the reason for that
abbrev pub IsReasonReportOfJob : Parts → Bool → List ℕ → Type 0
IsReasonReportOfJob job wanted bytes = (firsts : List (Option ℕ)) × (reasons : List (Option Reason))
    × AreFirsts job.list.model job.circuit job.tests.tests firsts
    × AreReasons job.list.model job.circuit job.tests.tests firsts reasons
    × (bytes ≡ reason_report job.list.model job.circuit job.classes firsts reasons wanted)
