use Rattle.std.proofs.Common.{◌<◌, All, length, subst, sym}
use Rattle.region_runs.proofs.PartsOfClasses.{stretch_within}
use Rattle.region_runs.proofs.stretch_workers.run_stretch.Goals as goal

pub run_from-requires-clause-classes : goal.run_from-requires-clause-classes
run_from-requires-clause-classes g c =
    subst (All (λ class. class < length c.args.job.now.classes.representative))
    (sym c.stretch-own.ensures)
    (stretch_within c.args.job.now c.args.cut.now.size c.args.stretch c.args.cut.now.classes.items
    c.requires.cut.within)
