use Rattle.std.{proofs.Common.{◌∙◌, ap, append_assoc, arith, sym}, specs.Prelude.codes}
use Rattle.threaded_lines.specs.Texts.{text_between}
use Rattle.table_rows.{specs.declared.rows.Format.TheVariants.Json, proofs.Stretches.object_added}
use Rattle.table_rows.specs.Table.{keys, object, opening, row_at, row_texts, separator}
use Rattle.table_rows.proofs.Texts.{added_both}
use Rattle.table_rows.proofs.json_rows.json_stretch.Goals as goal

pub loop-row-preserved : goal.loop-row-preserved
loop-row-preserved g c =
    let t = g.T.Rows.table c.args.rows.now in
    let i = c.loop-row.row in
    let so_far = text_between (row_texts Json t) c.args.start i in
    let names = ap (λ h. h.columns) c.heading.ensures in
    let cells = rw (c.clear.ensures.items) at c.in_ok-put_row.ensures in
    let own = object t.head.columns (row_at t i) in
    let before = c.in_ok-keys.ensures ∙ ap keys names in
    let opened = added_both so_far (separator i) (codes "\n") _ _
    (rw (c.loop-row.invariant) at c.in_ok-add_separator.ensures) c.in_ok-push.ensures.items in
    let whole = rw (
      c.deref.ensures.value,
      c.deref-in-loop-row.ensures.value,
      before,
      cells,
      opened,
    ) at c.in_ok-add_members.ensures in
    whole ∙ (append_assoc so_far (opening i) own
    ∙ sym (object_added t c.args.start i (omega arith) (omega arith)))
