use Rattle.table_rows.proofs.Texts.{added_same, percent_pieces}
use Rattle.table_rows.proofs.cell.add_percent.Goals as goal

pub returns : goal.returns
returns c = added_same _ _ _ _ _ (percent_pieces c.args.part c.args.whole c.format.result.now
    c.format-2.result.now c.format-3.result.now
    (rw (c.from.ensures, c.from-2.ensures, c.max.ensures) at c.format.ensures.text)
    (rw (c.from.ensures, c.from-2.ensures, c.max.ensures) at c.format-2.ensures.text)
    (rw (c.from.ensures, c.from-2.ensures, c.max.ensures) at c.format-3.ensures.text))
    c.add_pieces.ensures
