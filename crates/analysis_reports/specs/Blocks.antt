-- The report of the coverage of blocks.
use Rattle.std.specs.Prelude.{◌≡◌, ℕ, Bool, List, ◌++◌, Option, codes, count_by, flat_map, is_some}
use Rattle.std.specs.Prelude.{length, map}
use Rattle.bench_net.specs.Statement.{Statement}
use Rattle.fault_model.specs.Fault.{Fault}
use Rattle.block_sim.specs.Parts.{Parts}
use Rattle.block_coverage.specs.declared.rows.BlockRow.{BlockRow}
use Rattle.block_coverage.specs.Blocks.{AreBlockRows, BlockCells, cells_in, fault_names}
use Rattle.workers.specs.Verdict.{AreFirsts}
use Rattle.report.specs.Report.{coverage_line}

-- the line of a block, `block NAME D of T (P.PP%)`
abbrev pub block_line : BlockCells → List ℕ
block_line row =
    codes "block " ++ (row.name ++ (codes " " ++ coverage_line row.detected row.faults))

-- the same from the form of the program
abbrev pub row_line : BlockRow → List ℕ
row_line row = block_line (cells_in row)

-- how many flags are set
abbrev pub flagged : List Bool → ℕ
flagged flags = count_by (λ flag. flag) flags

-- the coverage line of faults that are detected or not, and the line of each row
abbrev pub blocks_text : List Bool → List BlockCells → List ℕ
blocks_text flags rows =
    coverage_line (flagged flags) (length flags) ++ flat_map block_line rows

-- the bytes are the report of a fault list, with a flag for each fault that is detected
abbrev pub IsBlockReport : ℕ → List Statement → List Fault → List Bool → List ℕ → Type 0
IsBlockReport separator c list flags bytes = (rows : List BlockCells)
    × AreBlockRows separator (fault_names c list) flags rows
    × (bytes ≡ blocks_text flags rows)

-- the bytes are the report of a job
abbrev pub IsBlockReportOfJob : Parts → ℕ → List ℕ → Type 0
IsBlockReportOfJob job separator bytes = (firsts : List (Option ℕ))
    × AreFirsts job.list.model job.circuit job.tests.tests firsts
    × IsBlockReport separator job.circuit job.list.list (map is_some firsts) bytes
