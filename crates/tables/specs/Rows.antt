-- The columns of the row of a fault.
use Rattle.std.specs.Prelude.{ℕ, ◌+◌, Bool, List, [], ◌∷◌, Option, Some}
use Rattle.std.specs.Prelude.{None, codes, drop, unwrap_or}
use Rattle.bench_net.specs.Statement.{Statement}
use Rattle.fault_model.specs.declared.Line.{Line}
use Rattle.fault_model.specs.declared.Line.TheVariants.{Stem, Pin, Data, Out}
use Rattle.fault_model.specs.declared.Model.{Model}
use Rattle.fault_model.specs.Detection.{name_on}
use Rattle.fault_model.specs.Fault.{Fault}
use Rattle.block_coverage.specs.Blocks.{owner}
use Rattle.report.specs.Report.{defect_text}
use Rattle.table_rows.specs.Cells.{Cell, Words, number_cell}
use Rattle.tables.specs.declared.row.Place.{Place}
use Rattle.tables.specs.declared.row.FaultRow.{FaultRow}

-- a line in columns
pub record LineCells : Type 0 where
  pub kind : List ℕ
  pub name : List ℕ
  pub pin : Option ℕ
  pub net : List ℕ

-- a fault in columns
pub record RowCells : Type 0 where
  pub line : LineCells
  pub defect : List ℕ

-- the name of the signal that a line carries: for a pin or a data pin the signal that it reads, for
-- an OUTPUT line the signal that it observes
abbrev pub net_text : List Statement → Line → List ℕ
net_text c l = unwrap_or (name_on c l) []

abbrev pub kind_text : Line → List ℕ
kind_text (Stem s) = codes "stem"
kind_text (Pin gate pin) = codes "pin"
kind_text (Data cell) = codes "data"
kind_text (Out output) = codes "out"

-- the name of the stem, of the gate that has the pin, of the flip-flop, or of the observed signal
abbrev pub owner_text : List Statement → Line → List ℕ
owner_text c l = unwrap_or (owner c l) []

-- the number of a gate's pin, or of an OUTPUT line, from 1
abbrev pub pin_number : Line → Option ℕ
pin_number (Pin gate pin) = Some (pin + 1)
pin_number (Out output) = Some (output + 1)
pin_number _ = None

-- the defect of a line: the word of the report
abbrev pub defect_name : Model → Bool → List ℕ
defect_name m bit = drop 1 (defect_text m bit)

abbrev pub line_cells : List Statement → Line → LineCells
line_cells c l = record {
  kind = kind_text l;
  name = owner_text c l;
  pin = pin_number l;
  net = net_text c l;
}

abbrev pub row_cells : List Statement → Fault → RowCells
row_cells c f = record { line = line_cells c f.line; defect = defect_name f.model f.stuck }

-- the line in columns, from the form of the program
abbrev pub place_in : Place → LineCells
place_in p = record { kind = p.kind.now; name = p.name.now; pin = p.pin; net = p.net.now }

abbrev pub row_in : FaultRow → RowCells
row_in r = record { line = place_in r.place; defect = r.defect.now }

-- the cells of a fault with its value: of the columns that each list of faults has
abbrev pub fault_cells : RowCells → Option ℕ → List Cell
fault_cells row value = Words row.line.kind ∷ Words row.line.name ∷ number_cell row.line.pin
    ∷ Words row.defect ∷ number_cell value ∷ Words row.line.net ∷ []
