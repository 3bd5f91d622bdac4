-- Tables of blocks, of pins that block effects of faults, of a curve and of a histogram.
use Rattle.std.specs.Prelude.{◌≡◌, ℕ, Bool, List, [], ◌∷◌, ◌++◌, Option}
use Rattle.std.specs.Prelude.{codes, is_some, length, map}
use Rattle.std.specs.List.{enumerate_from}
use Rattle.bench_net.specs.Statement.{Statement}
use Rattle.fault_model.specs.Fault.{Fault}
use Rattle.block_coverage.specs.Blocks.{AreBlockRows, BlockCells, fault_names}
use Rattle.block_sim.specs.Parts.{Parts}
use Rattle.blocking_pins.specs.declared.pins.BlockingPin.{BlockingPin}
use Rattle.blocking_pins.specs.Blocking.{AreBlockingPins}
use Rattle.n_detect.specs.Detections.{AreCounts}
use Rattle.workers.specs.Verdict.{AreFirsts, detected_count}
use Rattle.report.specs.declared.curve.CurvePoint.{CurvePoint}
use Rattle.report.specs.Curve.{curve}
use Rattle.analysis_reports.specs.Blocks.{flagged}
use Rattle.analysis_reports.specs.BlockingReports.{PinCells, pin_cells}
use Rattle.analysis_reports.specs.Detected.{reached_count}
use Rattle.analysis_reports.specs.Histogram.{histogram}
use Rattle.table_rows.specs.declared.rows.Format.{Format}
use Rattle.table_rows.specs.declared.rows.Format.TheVariants.{Csv, Json}
use Rattle.table_rows.specs.Cells.{Cell, Number, Percent, Words}
use Rattle.table_rows.specs.Table.{Head, Table, table_text}
use Rattle.tables.specs.Tables.{coverage, run_head}

abbrev pub block_head : ℕ → ℕ → Head
block_head detected faults =
    run_head (codes "block" ∷ codes "detected" ∷ codes "faults" ∷ codes "percent" ∷ [])
    (codes "blocks") (coverage detected faults)

abbrev pub block_row : BlockCells → List Cell
block_row block = Words block.name ∷ Number block.detected ∷ Number block.faults
    ∷ Percent block.detected block.faults ∷ []

-- all faults of the circuit: only comma-separated values have them as a row, the first one, under a
-- name that no block has
abbrev pub circuit_rows : Format → ℕ → ℕ → List BlockCells
circuit_rows Csv detected faults =
    record { name = codes "(circuit)"; detected = detected; faults = faults } ∷ []
circuit_rows Json detected faults = []

-- the table of blocks, for this number of detected faults and of all faults
abbrev pub block_table : Format → ℕ → ℕ → List BlockCells → Table
block_table format detected faults blocks = record {
  head = block_head detected faults;
  rows = map block_row (circuit_rows format detected faults ++ blocks);
}

-- the bytes are the table of a fault list, with a flag for each fault that is detected
abbrev pub IsBlockTable : ℕ → Format → List Statement → List Fault → List Bool → List ℕ → Type 0
IsBlockTable separator format c list flags bytes = (blocks : List BlockCells)
    × AreBlockRows separator (fault_names c list) flags blocks
    × (bytes ≡ table_text format (block_table format (flagged flags) (length flags) blocks))

-- the bytes are the table of a job
abbrev pub IsBlockTableOfJob : Parts → ℕ → Format → List ℕ → Type 0
IsBlockTableOfJob job separator format bytes = (firsts : List (Option ℕ))
    × AreFirsts job.list.model job.circuit job.tests.tests firsts
    × IsBlockTable separator format job.circuit job.list.list (map is_some firsts) bytes

abbrev pub pin_head : ℕ → ℕ → Head
pin_head detected faults = run_head (codes "name" ∷ codes "pin" ∷ codes "net" ∷ codes "value"
    ∷ codes "faults" ∷ codes "tests" ∷ []) (codes "pins") (coverage detected faults)

abbrev pub pin_row : PinCells → List Cell
pin_row pin = Words pin.gate ∷ Number pin.pin ∷ Words pin.net ∷ Number pin.value
    ∷ Number pin.faults ∷ Number pin.tests ∷ []

-- the table of pins, for this number of detected faults and of all faults
abbrev pub pin_table : List Statement → ℕ → ℕ → List BlockingPin → Table
pin_table c detected faults pins = record {
  head = pin_head detected faults;
  rows = map (λ pin. pin_row (pin_cells c pin)) pins;
}

-- the bytes are the table of a job, with a flag for each fault that is detected
abbrev pub IsBlockingTable : Format → Parts → List Bool → List ℕ → Type 0
IsBlockingTable format job flags bytes = (pins : List BlockingPin) × AreBlockingPins job pins
    × (bytes ≡ table_text format (pin_table job.circuit (flagged flags) (length flags) pins))

-- the same for the faults that the tests of the job detect
abbrev pub IsBlockingTableOfJob : Parts → Format → List ℕ → Type 0
IsBlockingTableOfJob job format bytes = (firsts : List (Option ℕ))
    × AreFirsts job.list.model job.circuit job.tests.tests firsts
    × IsBlockingTable format job (map is_some firsts) bytes

abbrev pub curve_head : ℕ → ℕ → Head
curve_head detected faults =
    run_head (codes "test" ∷ codes "new" ∷ codes "detected" ∷ codes "percent" ∷ [])
    (codes "points") (coverage detected faults)

abbrev pub point_row : ℕ → CurvePoint → List Cell
point_row faults point = Number point.test ∷ Number point.gained ∷ Number point.detected
    ∷ Percent point.detected faults ∷ []

-- the table of points, for this number of detected faults and of all faults
abbrev pub curve_table : List CurvePoint → ℕ → ℕ → Table
curve_table points detected faults = record {
  head = curve_head detected faults;
  rows = map (point_row faults) points;
}

-- the bytes are the table of the curve of a job
abbrev pub IsCurveTableOfJob : Parts → Format → List ℕ → Type 0
IsCurveTableOfJob job format bytes = (firsts : List (Option ℕ))
    × AreFirsts job.list.model job.circuit job.tests.tests firsts
    × (bytes ≡ table_text format (curve_table (curve (length job.tests.tests) firsts)
    (detected_count firsts) (length firsts)))

abbrev pub histogram_head : ℕ → ℕ → Head
histogram_head detected faults =
    run_head (codes "detections" ∷ codes "faults" ∷ []) (codes "histogram")
    (coverage detected faults)

-- the row of a count and of the number of faults with this count
abbrev pub count_row : ℕ × ℕ → List Cell
count_row at = Number at.0 ∷ Number at.1 ∷ []

-- the table of a histogram, for this number of faults with its last count and of all faults
abbrev pub histogram_table : List ℕ → ℕ → ℕ → Table
histogram_table counts reached faults = record {
  head = histogram_head reached faults;
  rows = map count_row (enumerate_from 0 counts);
}

-- the bytes are the table of the histogram of a job's counts
abbrev pub IsHistogramTableOfJob : Parts → ℕ → Format → List ℕ → Type 0
IsHistogramTableOfJob job most format bytes = (counts : List ℕ)
    × AreCounts job.list.model job.circuit job.tests.tests most counts
    × (bytes ≡ table_text format (histogram_table (histogram most counts)
    (reached_count most counts) (length counts)))
