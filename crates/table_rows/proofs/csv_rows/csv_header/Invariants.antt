use Rattle.std.proofs.Common.{◌≡◌, map, take}
use Rattle.table_rows.specs.Cells.{Words, cell_in}
use Rattle.table_rows.proofs.csv_rows.csv_header.Given as goal

-- the cells are the names so far
abbrev pub invariant-loop-name : goal.invariant-loop-name
invariant-loop-name l =
    map cell_in l.cells.items ≡ map (λ name. Words name.now) (take l.name-index l.names)
