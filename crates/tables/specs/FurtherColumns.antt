-- Columns that a table of faults has only if they are requested.
use Rattle.std.specs.Prelude.{◌≡◌, ℕ, Bool, true, false, List, [], ◌∷◌, ◌++◌, All, codes}
use Rattle.std.specs.Prelude.{length, map, Option, Some, None, slice_get, unwrap_or}
use Rattle.fault_model.specs.Collapse.{AreClassesOf, Collapsed}
use Rattle.block_sim.specs.Parts.{Parts}
use Rattle.n_detect.specs.Detections.{AreCounts}
use Rattle.undetected.specs.declared.Reason.{Reason}
use Rattle.undetected.specs.Reasons.{AreReasons}
use Rattle.analysis_reports.specs.Reasons.{reason_text}
use Rattle.tables.specs.declared.further.Further.{Further}
use Rattle.tables.specs.declared.further.Further.TheVariants as further
use Rattle.tables.specs.declared.further.FurtherColumns.{FurtherColumns}
use Rattle.table_rows.specs.Cells.{Cell, Empty, Number, Words}

-- a column: its name, and the cell of each fault in the order of the list
pub record FurtherColumn : Type 0 where
  pub name : List ℕ
  pub cells : List Cell

-- the cell of a fault, by its number
abbrev pub cell_at : FurtherColumn → ℕ → Cell
cell_at column fault = unwrap_or (slice_get column.cells fault) Empty

-- the columns have a cell for each of this many faults
abbrev pub HaveCells : ℕ → List FurtherColumn → Type 0
HaveCells count columns = All (λ column. length column.cells ≡ count) columns

-- the reason why no test detects a fault; a detected fault has none
abbrev pub reason_cell : Option Reason → Cell
reason_cell None = Empty
reason_cell (Some reason) = Words (reason_text reason)

abbrev pub reason_cells : List (Option Reason) → FurtherColumn
reason_cells reasons = record { name = codes "reason"; cells = map reason_cell reasons }

-- the number of tests that detect each fault
abbrev pub count_cells : List ℕ → FurtherColumn
count_cells counts = record { name = codes "detections"; cells = map Number counts }

-- the class of each fault
abbrev pub class_cells : List ℕ → FurtherColumn
class_cells class_of = record { name = codes "class"; cells = map Number class_of }

-- no column, or one of these values
abbrev pub column_of : {X : Type 0} → (List X → FurtherColumn) → Option (List X)
    → List FurtherColumn
column_of column None = []
column_of column (Some values) = column values ∷ []

-- the column of the reasons of a job's faults, if it is requested
abbrev pub HasReasons : Parts → List (Option ℕ) → Bool → List FurtherColumn → Type 0
HasReasons job firsts false columns = columns ≡ []
HasReasons job firsts true columns = (reasons : List (Option Reason))
    × AreReasons job.list.model job.circuit job.tests.tests firsts reasons
    × (columns ≡ reason_cells reasons ∷ [])

-- the column of the number of tests that detect each fault, up to a limit, if it is requested
abbrev pub HasCounts : Parts → Option ℕ → List FurtherColumn → Type 0
HasCounts job None columns = columns ≡ []
HasCounts job (Some most) columns = (counts : List ℕ)
    × AreCounts job.list.model job.circuit job.tests.tests most counts
    × (columns ≡ count_cells counts ∷ [])

-- the column of the classes, if it is requested
abbrev pub HasClasses : Parts → Bool → List FurtherColumn → Type 0
HasClasses job false columns = columns ≡ []
HasClasses job true columns = (classes : Collapsed)
    × AreClassesOf job.list.model job.circuit classes
    × (columns ≡ class_cells classes.class_of ∷ [])

-- the columns that are requested of the table of a job with these first tests, in their order
abbrev pub AreFurtherColumns : Parts → List (Option ℕ) → FurtherColumns → List FurtherColumn
    → Type 0
AreFurtherColumns job firsts wanted columns = (reasons : List FurtherColumn)
    × (counts : List FurtherColumn) × (classes : List FurtherColumn)
    × HasReasons job firsts wanted.reasons reasons × HasCounts job wanted.detections counts
    × HasClasses job wanted.classes classes × (columns ≡ reasons ++ (counts ++ classes))

-- a column from the form of the program
abbrev pub further_in : Further → FurtherColumn
further_in (further.Reasons reasons) = reason_cells reasons.now
further_in (further.Detections counts) = count_cells counts.now
further_in (further.Classes classes) = class_cells classes.now.class_of
