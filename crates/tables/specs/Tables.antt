-- The bytes of tables.
use Rattle.std.specs.Prelude.{◌≡◌, ℕ, Bool, true, List, [], ◌∷◌, ◌++◌, length, map, zip}
use Rattle.std.specs.Prelude.{Option, Some, is_none, codes}
use Rattle.std.specs.List.{enumerate_from, filter}
use Rattle.bench_net.specs.Refusal.{IsAccepted}
use Rattle.bench_net.specs.Scan.{sources}
use Rattle.bench_net.specs.Statement.{Statement}
use Rattle.fault_model.specs.declared.Model.{Model}
use Rattle.fault_model.specs.Collapse.{AreClassesOf, Collapsed}
use Rattle.fault_model.specs.Fault.{Fault, faults}
use Rattle.patterns.specs.Tests.{HasTests, TestList}
use Rattle.block_sim.specs.Parts.{Parts}
use Rattle.workers.specs.Verdict.{AreFirsts, detected_count}
use Rattle.report.specs.declared.contents.Lines.{Lines}
use Rattle.report.specs.declared.contents.Lines.TheVariants.{All, Omitted, Undetected}
use Rattle.part_files.specs.Merging.{run_of}
use Rattle.table_rows.specs.Cells.{Cell, Number, Percent}
use Rattle.table_rows.specs.Table.{Head, Table, table_text}
use Rattle.table_rows.specs.declared.rows.Format.{Format}
use Rattle.tables.specs.declared.column.Column.{Column}
use Rattle.tables.specs.declared.column.Column.TheVariants as column
use Rattle.tables.specs.declared.further.FurtherColumns.{FurtherColumns}
use Rattle.tables.specs.FurtherColumns.{AreFurtherColumns, FurtherColumn, cell_at}
use Rattle.tables.specs.Rows.{fault_cells, row_cells}

-- the column that the run or the classes give: its name, and its value for each fault in the order
-- of the list; and the sums with their names
pub record Values : Type 0 where
  pub name : List ℕ
  pub values : List (Option ℕ)
  pub sum_names : List (List ℕ)
  pub sums : List Cell

-- whether a fault with this value has a row: with `Undetected`, only a fault without a value
abbrev pub has_row : Lines → Option ℕ → Bool
has_row Undetected value = is_none value
has_row All value = true
has_row Omitted value = true

-- the sums of a run with their names
abbrev pub coverage_names : List (List ℕ)
coverage_names = codes "detected" ∷ codes "faults" ∷ codes "percent" ∷ []

abbrev pub coverage : ℕ → ℕ → List Cell
coverage detected total = Number detected ∷ Number total ∷ Percent detected total ∷ []

-- what a table with the sums of a run has beside its rows
abbrev pub run_head : List (List ℕ) → List ℕ → List Cell → Head
run_head columns array sums =
    record { columns = columns; array = array; sum_names = coverage_names; sums = sums }

-- the first test of each fault, or none
abbrev pub first_values : List (Option ℕ) → Values
first_values firsts = record {
  name = codes "first";
  values = firsts;
  sum_names = coverage_names;
  sums = coverage (detected_count firsts) (length firsts);
}

-- the class of each fault, for this number of classes
abbrev pub class_values : List ℕ → ℕ → Values
class_values class_of classes = record {
  name = codes "class";
  values = map Some class_of;
  sum_names = codes "faults" ∷ codes "classes" ∷ [];
  sums = Number (length class_of) ∷ Number classes ∷ [];
}

-- each fault with its value and its number
abbrev pub numbered : List Fault → List (Option ℕ) → List (ℕ × (Fault × Option ℕ))
numbered list values = enumerate_from 0 (zip list values)

-- those that have a row
abbrev pub listed : List Fault → List (Option ℕ) → Lines → List (ℕ × (Fault × Option ℕ))
listed list values lines = filter (λ at. has_row lines at.1.1) (numbered list values)

-- the cells of such a fault
abbrev pub fault_row : List Statement → List FurtherColumn → ℕ × (Fault × Option ℕ) → List Cell
fault_row c further at = fault_cells (row_cells c at.1.0) at.1.1
    ++ map (λ column. cell_at column at.0) further

-- the names of the columns
abbrev pub column_names : List ℕ → List FurtherColumn → List (List ℕ)
column_names column further = codes "kind" ∷ codes "name" ∷ codes "pin" ∷ codes "defect" ∷ column
    ∷ codes "net" ∷ map (λ column. column.name) further

-- the table of the faults of a circuit
abbrev pub fault_table : List Statement → List Fault → Values → Lines → List FurtherColumn → Table
fault_table c list values lines further = record {
  head = record {
    columns = column_names values.name further;
    array = codes "faults";
    sum_names = values.sum_names;
    sums = values.sums;
  };
  rows = map (fault_row c further) (listed list values.values lines);
}

-- the bytes are the table of a run of a bench file and a test file under a model: each fault with
-- the first test that detects it, or none
abbrev pub IsFirstTableOf : Model → List ℕ → List ℕ → Lines → Format → List ℕ → Type 0
IsFirstTableOf m bench text lines format bytes = (c : List Statement) × (tests : TestList)
    × (firsts : List (Option ℕ)) × IsAccepted bench c × HasTests text (length (sources c)) tests
    × AreFirsts m c tests.tests firsts
    × (bytes ≡ table_text format (fault_table c (faults m c) (first_values firsts) lines []))

-- the same for a job, with the further columns that are requested
abbrev pub IsFirstTableOfJob : Parts → Lines → FurtherColumns → Format → List ℕ → Type 0
IsFirstTableOfJob job lines wanted format bytes = (firsts : List (Option ℕ))
    × (further : List FurtherColumn)
    × AreFirsts job.list.model job.circuit job.tests.tests firsts
    × AreFurtherColumns job firsts wanted further
    × (bytes ≡ table_text format (fault_table job.circuit (faults job.list.model job.circuit)
    (first_values firsts) lines further))

-- the bytes are the table of the faults of a bench file under a model with their classes
abbrev pub IsClassTableOf : Model → List ℕ → Format → List ℕ → Type 0
IsClassTableOf m bench format bytes = (c : List Statement) × (classes : Collapsed)
    × IsAccepted bench c × AreClassesOf m c classes
    × (bytes ≡ table_text format (fault_table c (faults m c)
    (class_values classes.class_of (length classes.representative)) All []))

-- the same for a circuit
abbrev pub IsClassTableOfCircuit : Model → List Statement → Format → List ℕ → Type 0
IsClassTableOfCircuit m c format bytes = (classes : Collapsed) × AreClassesOf m c classes
    × (bytes ≡ table_text format (fault_table c (faults m c)
    (class_values classes.class_of (length classes.representative)) All []))

-- the column that the program passes on
abbrev pub values_in : Column → Values
values_in (column.First verdicts) = first_values verdicts.now.firsts
values_in (column.Merged merged) = first_values (run_of merged.now).firsts
values_in (column.Class classes) =
    class_values classes.now.class_of (length classes.now.representative)
