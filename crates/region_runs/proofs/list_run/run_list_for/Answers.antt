use Rattle.std.proofs.{Common.subst, lemmas.Result.err_from_is_err_and}
use Rattle.region_runs.specs.{Cut.IsCutOf, Stretches.AreByStretches, Tasks.{AreKept, task_of}}
use Rattle.region_runs.proofs.{RunRefusals.fault_under, SharedStretches.stretches_under}
use Rattle.region_runs.proofs.list_run.run_list_for.Goals as goal

pub gather-requires-clause-wanted : goal.gather-requires-clause-wanted
gather-requires-clause-wanted g c κs within = c.requires.wanted

pub returns-clause-kept : goal.returns-clause-kept
returns-clause-kept g c =
    let job = c.args.job.now in
    let goal = c.args.goal.now in
    let kept = c.in_ok-gathered.gathered.kept.items in
    subst (λ n. AreKept (task_of job n (g.A.Goal.wants goal) (g.A.Goal.means goal))
    c.args.classes.items kept) c.new-cut.ensures.from
    (subst (λ l. AreKept (task_of job c.new-cut.result.from (g.A.Goal.wants goal)
    (g.A.Goal.means goal)) l kept) c.new-cut.ensures.classes c.in_ok-gathered.ensures.kept)

pub returns-clause-stretches : goal.returns-clause-stretches
returns-clause-stretches g c =
    let job = c.args.job.now in
    let goal = c.args.goal.now in
    let cut = c.new-cut.result in
    let from = c.new-cut.ensures.from in
    let kept = c.in_ok-gathered.gathered.kept.items in
    let ledger = c.in_ok-gathered.gathered.ledger in
    stretches_under (task_of job c.args.from (g.A.Goal.wants goal)
    (g.A.Goal.means goal)) cut.stretches
    c.args.stretches cut.size cut.classes.items c.args.classes.items c.args.workers kept ledger
    (subst (λ n. IsCutOf job n cut.stretches cut.size cut.classes.items) from c.new-cut.ensures.cut)
    c.new-cut.ensures.stretches c.new-cut.ensures.classes
    (subst (λ n. AreByStretches (task_of job n (g.A.Goal.wants goal) (g.A.Goal.means goal)) cut.size
    cut.classes.items c.args.workers kept ledger) from c.in_ok-gathered.ensures.stretches)

pub returns-in_err-gathered-clause-refused : goal.returns-in_err-gathered-clause-refused
returns-in_err-gathered-clause-refused g c =
    let job = c.args.job.now in
    let goal = c.args.goal.now in
    let cut = c.new-cut.result in
    let from = c.new-cut.ensures.from in
    let P = g.G.Gate.passing c.args.gate.now in
    let S = g.G.Gate.stops c.args.gate.now in
    let p = err_from_is_err_and c.from_residual.result c.from_residual.ensures.1 in
    rw (p.1, p.2) (fault_under job (g.A.Goal.wants goal) (g.A.Goal.means goal) cut.from
    c.args.from cut.stretches c.args.stretches cut.size cut.classes.items c.args.classes.items
    c.args.workers P S _ from c.new-cut.ensures.cut c.new-cut.ensures.stretches
    c.new-cut.ensures.classes c.in_err-gathered.ensures.refused)
