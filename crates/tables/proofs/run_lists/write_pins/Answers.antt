use Rattle.std.proofs.Common.{◌≡◌, ◌∙◌, ap, length, map, sym}
use Rattle.fault_model.specs.Fault.{FaultList}
use Rattle.report.proofs.Public.{written_as}
use Rattle.analysis_reports.specs.{Blocks.flagged, BlockingReports.pin_cells}
use Rattle.analysis_reports.proofs.Public.{pins_named}
use Rattle.table_rows.specs.{Cells.cell_in, Table.{head_in, table_text}}
use Rattle.tables.specs.{Lists.{IsBlockingTable, pin_head, pin_row}, Tables.coverage}
use Rattle.tables.proofs.Heads.{sums_same, table_of, tables_same}
use Rattle.tables.proofs.run_lists.write_pins.Goals as goal

pub invariant_of-rows : goal.invariant_of-rows
invariant_of-rows g c = record {
  named = rw (c.circuit-circuit.ensures.part, c.deref-2.ensures.value)
      (pins_named c.args.job.now c.in_ok-pins.pins.items c.circuit-circuit.ensures.together
      c.in_ok-pins.ensures.each);
}

pub returns-clause-written : goal.returns-clause-written
returns-clause-written g c =
    let format = c.args.format in
    let flags = c.args.detected.now in
    let job = c.args.job.now in
    let pins = c.in_ok-pins.pins.items in
    let many : c.count-faults.result ≡ length flags = c.count-faults.ensures
    ∙ (ap (λ (l : FaultList). length l.list) c.faults.ensures.part ∙ sym c.requires.count) in
    let sums : map cell_in c.deref.result.now ≡ coverage (flagged flags) (length flags) =
    ap (map cell_in) c.deref.ensures.value
    ∙ rw (c.count_flags.ensures, many) at c.in_ok-sums.ensures in
    let head : head_in c.run_heading.result ≡ pin_head (flagged flags) (length flags) =
    c.run_heading.ensures ∙ sums_same (pin_head (flagged flags) (length flags)) _ _ sums in
    let circuit = c.circuit-circuit.result.now in
    let rows : map (λ pin. pin_row (pin_cells circuit pin)) c.deref-2.result.now
    ≡ map (λ pin. pin_row (pin_cells job.circuit pin)) pins =
    ap (map (λ pin. pin_row (pin_cells circuit pin))) c.deref-2.ensures.value
    ∙ ap (λ k. map (λ pin. pin_row (pin_cells k pin)) pins) c.circuit-circuit.ensures.part in
    written_as (λ bytes. bytes ≡ table_text format (table_of (head_in c.run_heading.result)
    (map (λ pin. pin_row (pin_cells circuit pin)) c.deref-2.result.now)))
    (IsBlockingTable format job flags) c.write_rows.result _ _ (λ bytes is. (
      pins,
      c.in_ok-pins.ensures,
      is ∙ ap (table_text format) (tables_same _ _ _ _ head rows),
    )) c.write_rows.ensures.written
