use Rattle.tables.proofs.Texts.{added_same, seconds_pieces}
use Rattle.tables.proofs.summary.add_seconds.Goals as goal

pub returns : goal.returns
returns c = rw (c.in-Some.is) (added_same _ _ _ _ _ (seconds_pieces c.in-Some.milliseconds
    c.format.result.now c.format-2.result.now c.format-3.result.now c.format-4.result.now
    c.format.ensures.text c.format-2.ensures.text c.format-3.ensures.text
    c.format-4.ensures.text) c.add_pieces-2.ensures)
