use Rattle.std.proofs.{Common.{◌≡◌, ◌∙◌, ap, length, subst}, lemmas.Result.err_from_is_err_and}
use Rattle.region_runs.specs.{Part.{stretch_size, stretches_for}, Stretches.AreByStretches}
use Rattle.region_runs.{specs.Tasks.{AreKept, task_of}, proofs.RunRefusals.list_fault}
use Rattle.region_runs.proofs.list_run.run_list.Goals as goal

pub returns-clause-kept : goal.returns-clause-kept
returns-clause-kept g c =
    subst (λ l. AreKept (task_of c.args.job.now 0 (g.A.Goal.wants c.args.goal.now)
    (g.A.Goal.means c.args.goal.now)) l c.in_ok-done.done.kept.items) c.in_ok-own.ensures.items
    c.in_ok-done.ensures.kept

pub returns-clause-ledger : goal.returns-clause-ledger
returns-clause-ledger g c =
    let task = task_of c.args.job.now 0 (g.A.Goal.wants c.args.goal.now)
    (g.A.Goal.means c.args.goal.now) in
    let all = c.args.classes.now in
    let workers = c.args.workers in
    let done = c.in_ok-done.done in
    let n = c.stretches_for-stretches.result in
    let count : n ≡ stretches_for (length all) workers = c.stretches_for-stretches.ensures.count
    ∙ ap (λ k. stretches_for k workers) c.count_in.ensures.count in (
      done.ledger,
      subst (λ k. AreByStretches task (stretch_size (length all) k) all workers done.kept.items
          done.ledger) count
          (subst (λ l. AreByStretches task (stretch_size (length l) n) l workers done.kept.items
          done.ledger) c.in_ok-own.ensures.items c.in_ok-done.ensures.stretches),
    )

pub returns-in_err-done-clause-refused : goal.returns-in_err-done-clause-refused
returns-in_err-done-clause-refused g c =
    let task = task_of c.args.job.now 0 (g.A.Goal.wants c.args.goal.now)
    (g.A.Goal.means c.args.goal.now) in
    let all = c.args.classes.now in
    let workers = c.args.workers in
    let P = g.G.Gate.passing c.args.gate.now in
    let S = g.G.Gate.stops c.args.gate.now in
    let n = c.stretches_for-stretches.result in
    let count : n ≡ stretches_for (length all) workers = c.stretches_for-stretches.ensures.count
    ∙ ap (λ k. stretches_for k workers) c.count_in.ensures.count in
    let p = err_from_is_err_and c.from_residual-in_err-done.result
    c.from_residual-in_err-done.ensures.1 in
    rw (p.1, p.2) (list_fault task workers n c.in_ok-own.own.items all P S _
    c.in_ok-own.ensures.items count c.in_err-done.ensures.refused)
