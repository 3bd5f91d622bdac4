use Rattle.std.proofs.{Common.below_more, lemmas.Bool.eqb-true}
use Rattle.part_files.proofs.ending.missing_part.Goals as goal

pub loop-part-preserved : goal.loop-part-preserved
loop-part-preserved c =
    let at = c.if-not-contains.ensures.cases in
    below_more _ _ c.loop-part.invariant (at.0, at.1, eqb-true _ _ (at.2 c.loop-part.part-counter))
