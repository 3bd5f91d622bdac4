use Rattle.std.proofs.Common.{◌≡◌}
use Rattle.threaded_lines.specs.Texts.{text_between}
use Rattle.table_rows.specs.{declared.rows.Format.TheVariants.Json, Table.row_texts}
use Rattle.table_rows.proofs.json_rows.json_stretch.Given as goal

-- the objects of the rows so far were added
abbrev pub invariant-loop-row : goal.invariant-loop-row
invariant-loop-row g l = l.text.items
    ≡ text_between (row_texts Json (g.T.Rows.table l.rows)) l.fn.start l.row
