-- The tables of a run.
use Rattle.std.specs.Prelude.{◌≡◌, ⊤, ℕ, List, [], IsSome, Option, is_some, map}
use Rattle.bench_net.specs.Statement.{Statement}
use Rattle.fault_model.specs.Fault.{Fault}
use Rattle.block_coverage.specs.Blocks.{byte_of}
use Rattle.block_sim.specs.Parts.{Parts}
use Rattle.job_loading.specs.declared.fault.SimFault.{SimFault}
use Rattle.region_runs.specs.Refused.{IsFirstsFault, IsOpenFault}
use Rattle.region_runs.specs.RunJobs.{RunView}
use Rattle.report.specs.EndToEnd.{IsJobReportFault, IsJobTextFault}
use Rattle.workers.specs.Stops.{Stops}
use Rattle.table_rows.specs.declared.rows.Format.{Format}
use Rattle.table_rows.specs.Table.{table_text}
use Rattle.tables.specs.declared.merged.MergedView.{MergedView}
use Rattle.tables.specs.declared.merged.MergedView.TheVariants as merged_view
use Rattle.tables.specs.declared.run.View.{View}
use Rattle.tables.specs.declared.run.View.TheVariants as view
use Rattle.tables.specs.Lists.{IsBlockTable, IsBlockTableOfJob, IsBlockingTableOfJob}
use Rattle.tables.specs.Lists.{IsCurveTableOfJob, IsHistogramTableOfJob}
use Rattle.tables.specs.Tables.{IsFirstTableOfJob, fault_table, first_values}

-- the bytes are this table of a job
abbrev pub IsTableOfJob : Parts → View → Format → List ℕ → Type 0
IsTableOfJob job (view.Faults lines further) format bytes =
    IsFirstTableOfJob job lines further format bytes
IsTableOfJob job (view.Blocks separator) format bytes =
    IsBlockTableOfJob job (byte_of separator) format bytes
IsTableOfJob job view.Blocking format bytes = IsBlockingTableOfJob job format bytes
IsTableOfJob job view.Curve format bytes = IsCurveTableOfJob job format bytes
IsTableOfJob job (view.Histogram most) format bytes = IsHistogramTableOfJob job most format bytes

-- the table counts the tests that detect each fault
abbrev pub Counts : View → Type 0
Counts (view.Faults lines further) = IsSome further.detections
Counts (view.Histogram most) = ⊤
Counts _ = ⊥

-- The condition of each error of a table. Only a histogram takes all its memory as a part of the
-- run.
abbrev pub IsViewFault : View → Parts → ℕ → ℕ → Type 0 → Stops → SimFault → Type 0
IsViewFault (view.Histogram most) job stretches workers passing stops fault =
    IsJobReportFault workers (IsOpenFault workers) fault
IsViewFault _ job stretches workers passing stops fault =
    IsJobTextFault workers (IsFirstsFault job stretches workers passing stops) fault

-- The run stays as it was. For the pins that block effects, it has its tests as its own afterwards.
abbrev pub IsKept : View → RunView → RunView → Type 0
IsKept view.Blocking old new = new.whole ≡ old.whole
IsKept _ old new = new ≡ old

-- the bytes are this table of a fault list, for the first tests of a merged run
abbrev pub IsTableOfMerged : List Statement → List Fault → List (Option ℕ) → MergedView → Format
    → List ℕ → Type 0
IsTableOfMerged c list firsts (merged_view.Faults lines) format bytes =
    bytes ≡ table_text format (fault_table c list (first_values firsts) lines [])
IsTableOfMerged c list firsts (merged_view.Blocks separator) format bytes =
    IsBlockTable (byte_of separator) format c list (map is_some firsts) bytes
