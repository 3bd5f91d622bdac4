use Rattle.std.{proofs.Common.{◌≡◌, ◌≤◌, ◌-◌}, specs.Prelude.flat_map}
use Rattle.threaded_lines.specs.Texts.{text_between}
use Rattle.table_rows.specs.Table.{row_texts}
use Rattle.table_rows.proofs.table.table_texts.Given as goal

-- the texts so far are those of the rows so far
abbrev pub invariant-loop-start : goal.invariant-loop-start
invariant-loop-start g l = record {
  within : l.start ≤ l.count;
  texts : flat_map (λ text. text.items) l.texts.items
      ≡ text_between (row_texts l.format (g.T.Rows.table l.rows)) 0 l.start;
}

abbrev pub decreases-loop-start : goal.decreases-loop-start
decreases-loop-start g l = l.count - l.start
