use Rattle.std.proofs.Common.{◌<◌, ◌∙◌, All, None, arith, eqb-true, length, subst, sym}
use Rattle.region_runs.specs.{StretchRuns.{AreKeptUpTo, IsLowestIn, unbegun_run}, Tasks.task_of}
use Rattle.region_runs.proofs.{ClaimedStretches.starts_kept, PartsOfClasses.stretch_within}
use Rattle.region_runs.proofs.RunsOfStretches.{unbegun_empty, unbegun_lowest}
use Rattle.region_runs.proofs.stretch_workers.not_begun.Goals as goal

pub lowest_open-requires-clause-classes : goal.lowest_open-requires-clause-classes
lowest_open-requires-clause-classes g c =
    subst (All (λ class. class < length c.args.job.now.classes.representative))
    (sym c.stretch-own.ensures)
    (stretch_within c.args.job.now c.args.cut.now.size c.args.stretch c.args.cut.now.classes.items
    c.requires.cut.within)

pub lowest_open-requires-clause-found : goal.lowest_open-requires-clause-found
lowest_open-requires-clause-found g c =
    let goal = c.args.goal.now in
    let task = task_of c.args.job.now c.args.cut.now.from (g.A.Goal.wants goal)
    (g.A.Goal.means goal) in
    let sized = c.in_ok-kept.kept.ok.0 in
    let own = c.stretch-own.result.now in
    subst (AreKeptUpTo task own 0 c.args.cut.now.from) (sym c.as_slice.ensures.value)
    (starts_kept task own c.in_ok-kept.kept.items
    (omega (arith, sized, c.in_ok-kept.ensures.count)) c.in_ok-kept.ensures.first)

pub returns-then-is_empty : goal.returns-then-is_empty
returns-then-is_empty g c =
    let goal = c.args.goal.now in
    let task = task_of c.args.job.now c.args.cut.now.from (g.A.Goal.wants goal)
    (g.A.Goal.means goal) in
    let none = eqb-true (length c.stretch-own.result.now) 0
    (sym c.is_empty.ensures ∙ c.if-is_empty.true) in
    subst (λ own. IsLowestIn task (unbegun_run c.args.cut.now.from own) None) c.stretch-own.ensures
    (unbegun_empty task c.stretch-own.result.now none)

pub returns : goal.returns
returns g c =
    let goal = c.args.goal.now in
    let task = task_of c.args.job.now c.args.cut.now.from (g.A.Goal.wants goal)
    (g.A.Goal.means goal) in
    subst (λ own. IsLowestIn task (unbegun_run c.args.cut.now.from own) c.lowest_open.result)
    c.stretch-own.ensures
    (unbegun_lowest task c.stretch-own.result.now c.lowest_open.result c.lowest_open.ensures)
