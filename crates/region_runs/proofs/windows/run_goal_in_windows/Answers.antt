use Rattle.std.proofs.Common.{◌<◌, All, length, refl, subst, sym}
use Rattle.block_sim.specs.Parts.{Parts}
use Rattle.region_sim.proofs.Public.{all_within}
use Rattle.region_runs.proofs.windows.run_goal_in_windows.Goals as goal

pub returns-in_err-check_workers-clause-job : goal.returns-in_err-check_workers-clause-job
returns-in_err-check_workers-clause-job g c = (c.args.job.now.tests, refl)

pub run_windows-requires-clause-within : goal.run_windows-requires-clause-within
run_windows-requires-clause-within g c κs within =
    let job = c.args.job.now in
    subst (λ l. All (λ class. class < length (c.classes_and_window.new.job).classes.representative)
    l) (sym c.as_slice-all.ensures.value)
    (subst (λ (j : Parts). All (λ class. class < length j.classes.representative)
    c.in_ok-order.order.classes.items) (sym c.in_ok-order.ensures.kept)
    (all_within job c.in_ok-order.order.classes.items c.in_ok-order.ensures.classes))
