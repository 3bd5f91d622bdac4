use Rattle.std.proofs.{Common.{[], refl}, lemmas.Result.err_from_is_err_and}
use Rattle.byte_output.proofs.Public.{flat_map_cut, flat_map_taken, stopped, takes_more}
use Rattle.analysis_reports.specs.Blocks.{row_line}
use Rattle.analysis_reports.proofs.blocks.put_lines.Goals as goal

pub returns-in_err-put_line : goal.returns-in_err-put_line
returns-in_err-put_line g c =
    let p = err_from_is_err_and c.from_residual.result c.from_residual.ensures.1 in
    rw (p.1) (stopped _ _ _ _ _ _ _ c.loop-row.invariant c.in_err-put_line.ensures
    (flat_map_cut row_line c.args.rows.now c.loop-row.row-index
    (record { name = record { ref_ptr = (0, 0); now = [] }; detected = 0; faults = 0 }) _
    c.loop-row-test.true refl))

pub loop-row-preserved : goal.loop-row-preserved
loop-row-preserved g c = rw (flat_map_taken row_line c.args.rows.now c.loop-row.row-index
    (record { name = record { ref_ptr = (0, 0); now = [] }; detected = 0; faults = 0 }) _
    c.loop-row-test.true refl) (takes_more _ _ _ _ _ c.loop-row.invariant c.in_ok-put_line.ensures)
