use Rattle.std.proofs.Common.{◌∙◌, ap, map, sym, take_all}
use Rattle.csv.specs.Writing.{default_writer, row_text}
use Rattle.table_rows.{specs.Cells.{Words, csv_cell}, proofs.Texts.mapped_twice}
use Rattle.table_rows.proofs.csv_rows.csv_header.Goals as goal

pub returns : goal.returns
returns c =
    let names = c.args.names.now in
    let all = c.loop-name.invariant ∙ ap (map (λ name. Words name.now))
    (take_all c.loop-name.name-index names c.loop-name-test.false) in
    (rw (c.new-text.ensures.items, c.deref.ensures.value, all) at c.in_ok-add_record.ensures)
    ∙ ap (row_text default_writer) (sym (mapped_twice csv_cell (λ name. Words name.now) names))
