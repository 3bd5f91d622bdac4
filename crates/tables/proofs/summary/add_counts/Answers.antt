use Rattle.tables.proofs.Texts.{added_four}
use Rattle.tables.proofs.summary.add_counts.Goals as goal

pub returns : goal.returns
returns c = added_four _ _ _ _ _ _ _ _ _ _ c.in_ok-add_pieces.ensures c.in_ok-add_found.ensures
    c.in_ok-add_pieces-2.ensures c.add_found-2.ensures
