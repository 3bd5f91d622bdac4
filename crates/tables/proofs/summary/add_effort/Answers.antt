use Rattle.tables.proofs.Texts.{added_parts, effort_pieces}
use Rattle.tables.proofs.summary.add_effort.Goals as goal

pub returns : goal.returns
returns c = added_parts _ _ _ _ _ _ _ _ _ c.in_ok-add_pieces.ensures c.in_ok-add_seconds.ensures
    (effort_pieces c.args.workers c.args.milliseconds c.format.result.now c.format.ensures.text)
    c.add_pieces-2.ensures
