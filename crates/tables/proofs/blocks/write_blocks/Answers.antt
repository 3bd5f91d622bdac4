use Rattle.std.proofs.Common.{◌≡◌, ◌∙◌, ◌++◌, ap, length, map, refl, sym}
use Rattle.block_coverage.specs.Blocks.{byte_of, cells_in}
use Rattle.report.proofs.Public.{written_as}
use Rattle.analysis_reports.specs.Blocks.{flagged}
use Rattle.table_rows.specs.{Cells.cell_in, Table.{head_in, table_text}}
use Rattle.tables.specs.{Lists.{IsBlockTable, block_head, block_row, circuit_rows}, Tables.coverage}
use Rattle.tables.proofs.{FurtherCells.mapped_twice, Heads.{sums_same, table_of, tables_same}}
use Rattle.tables.proofs.blocks.write_blocks.Goals as goal

pub returns-clause-written : goal.returns-clause-written
returns-clause-written g c =
    let format = c.args.format in
    let flags = c.args.detected.now in
    let blocks = map cells_in c.in_ok-blocks.blocks.items in
    let many : c.count-all.result ≡ length flags = c.count-all.ensures ∙ sym c.requires.count in
    let sums : map cell_in c.deref.result.now ≡ coverage (flagged flags) (length flags) =
    ap (map cell_in) c.deref.ensures.value
    ∙ rw (c.count_flags-found.ensures, many) at c.in_ok-sums.ensures in
    let head : head_in c.run_heading.result ≡ block_head (flagged flags) (length flags) =
    c.run_heading.ensures ∙ sums_same (block_head (flagged flags) (length flags)) _ _ sums in
    let listed = rw (c.count_flags-found.ensures, many) at c.in_ok-blocks-2.ensures in
    let rows : map (λ block. block_row (cells_in block)) c.deref-2.result.now
    ≡ map block_row (circuit_rows format (flagged flags) (length flags) ++ blocks) =
    mapped_twice block_row cells_in c.deref-2.result.now
    ∙ ap (map block_row) (ap (map cells_in) c.deref-2.ensures.value ∙ listed) in
    written_as (λ bytes. bytes ≡ table_text format (table_of (head_in c.run_heading.result)
    (map (λ block. block_row (cells_in block)) c.deref-2.result.now)))
    (IsBlockTable (byte_of c.args.separator) format c.args.circuit.now c.args.list.now.list flags)
    c.write_rows.result _ _ (λ bytes is. (
      blocks,
      c.in_ok-blocks.ensures.rows,
      is ∙ ap (table_text format) (tables_same _ _ _ _ head rows),
    )) c.write_rows.ensures.written
