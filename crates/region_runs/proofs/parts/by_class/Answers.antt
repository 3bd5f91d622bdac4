use Rattle.region_runs.proofs.PartsOfClasses.{verdict_none}
use Rattle.region_runs.proofs.parts.by_class.Goals as goal

pub loop-place-init : goal.loop-place-init
loop-place-init c = verdict_none c.args.count c.args.classes.now c.args.firsts.now
    c.in_ok-verdicts.verdicts.items (c.in_ok-verdicts.ensures.items_if_clones_equal (λ y is. is))
