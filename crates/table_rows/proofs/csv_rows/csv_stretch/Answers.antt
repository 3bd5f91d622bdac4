use Rattle.std.proofs.Common.{◌∙◌, arith, sym}
use Rattle.table_rows.proofs.Stretches.{record_added}
use Rattle.table_rows.proofs.csv_rows.csv_stretch.Goals as goal

pub loop-row-preserved : goal.loop-row-preserved
loop-row-preserved g c =
    let t = g.T.Rows.table c.args.rows.now in
    let i = c.loop-row.row in
    let cells = rw (c.clear.ensures.items) at c.in_ok-put_row.ensures in
    let whole = rw (c.deref.ensures.value, cells, c.loop-row.invariant) at
    c.in_ok-add_record.ensures in
    whole ∙ sym (record_added t c.args.start i (omega arith) (omega arith))
