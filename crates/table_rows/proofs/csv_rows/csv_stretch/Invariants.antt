use Rattle.std.proofs.Common.{◌≡◌}
use Rattle.threaded_lines.specs.Texts.{text_between}
use Rattle.table_rows.specs.{declared.rows.Format.TheVariants.Csv, Table.row_texts}
use Rattle.table_rows.proofs.csv_rows.csv_stretch.Given as goal

-- the records of the rows so far were added
abbrev pub invariant-loop-row : goal.invariant-loop-row
invariant-loop-row g l = l.text.items
    ≡ text_between (row_texts Csv (g.T.Rows.table l.rows)) l.fn.start l.row
