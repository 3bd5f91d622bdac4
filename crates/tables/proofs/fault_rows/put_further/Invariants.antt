use Rattle.std.proofs.Common.{◌≡◌, ◌++◌, map, take}
use Rattle.table_rows.specs.Cells.{cell_in}
use Rattle.tables.specs.FurtherColumns.{cell_at, further_in}
use Rattle.tables.proofs.fault_rows.put_further.Given as goal

-- the cells so far were added
abbrev pub invariant-loop-column : goal.invariant-loop-column
invariant-loop-column l = map cell_in l.cells.items ≡ map cell_in l.fn.cells.items
    ++ map (λ f. cell_at (further_in f) l.fault) (take l.column-index l.further)
