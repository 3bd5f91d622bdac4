use Rattle.std.{proofs.Common.{◌≡◌, ◌∷◌, map, take}, specs.Prelude.codes}
use Rattle.tables.specs.{FurtherColumns.further_in, Tables.column_names}
use Rattle.tables.proofs.fault_rows.column_names.Given as goal

-- the names so far
abbrev pub invariant-loop-column : goal.invariant-loop-column
invariant-loop-column l = map (λ name. name.now) l.names.items
    ≡ column_names l.fn.column (map further_in (take l.column-index l.further))
