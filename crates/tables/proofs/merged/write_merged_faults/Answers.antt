use Rattle.std.proofs.Common.{◌≡◌, ◌∙◌, [], ap, map}
use Rattle.part_files.specs.Merging.{run_of}
use Rattle.report.proofs.Public.{written_as}
use Rattle.table_rows.specs.Table.{table_text}
use Rattle.tables.specs.{FurtherColumns.further_in, Tables.{fault_table, first_values, values_in}}
use Rattle.tables.proofs.merged.write_merged_faults.Goals as goal

pub returns-clause-written : goal.returns-clause-written
returns-clause-written g c =
    let format = c.args.format in
    let rows = c.in_ok-rows.rows in
    written_as (λ bytes. bytes ≡ table_text format (fault_table rows.circuit.now
    rows.list.now.list (values_in rows.column) rows.lines (map further_in rows.further.now)))
    (λ bytes. bytes ≡ table_text format (fault_table c.args.circuit.now c.args.list.now.list
    (first_values (run_of c.args.merged.now).firsts) c.args.lines [])) c.write_rows.result _ _
    (λ bytes is. is ∙ ap (table_text format) c.in_ok-rows.ensures) c.write_rows.ensures.written
