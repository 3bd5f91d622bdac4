use Rattle.std.proofs.Common.{◌≡◌, ◌∙◌, ap, length, map}
use Rattle.report.proofs.Public.{written_as}
use Rattle.table_rows.specs.Table.{table_text}
use Rattle.tables.{specs.FurtherColumns.further_in, proofs.TablesOfTexts.classes_table}
use Rattle.tables.specs.Tables.{IsClassTableOfCircuit, fault_table, values_in}
use Rattle.tables.proofs.fault_rows.write_classes.Goals as goal

pub returns-clause-written : goal.returns-clause-written
returns-clause-written g c =
    let format = c.args.format in
    let rows = c.in_ok-rows.rows in
    written_as (λ bytes. bytes ≡ table_text format (fault_table rows.circuit.now
    rows.list.now.list (values_in rows.column) rows.lines (map further_in rows.further.now)))
    (IsClassTableOfCircuit c.args.model c.args.circuit.now format) c.write_rows.result _ _
    (λ bytes is. classes_table c.args.model c.args.circuit.now c.in_ok-list.list
    c.in_ok-classes.classes format c.in_ok-list.ensures c.in_ok-classes.ensures.classes bytes
    (is ∙ ap (table_text format) c.in_ok-rows.ensures)) c.write_rows.ensures.written
