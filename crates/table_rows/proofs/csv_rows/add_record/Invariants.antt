use Rattle.std.proofs.Common.{◌≡◌, ◌++◌, map, take}
use Rattle.csv.specs.Writing.{default_writer, row_body}
use Rattle.table_rows.specs.Cells.{cell_in, csv_cell}
use Rattle.table_rows.proofs.csv_rows.add_record.Given as goal

-- the fields so far were added
abbrev pub invariant-loop-place : goal.invariant-loop-place
invariant-loop-place l = l.text.items ≡ l.fn.text.items
    ++ row_body default_writer (take l.place (map csv_cell (map cell_in l.cells)))
