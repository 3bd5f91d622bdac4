use Rattle.std.proofs.Common.{◌<◌, All, None, length, subst, sym}
use Rattle.region_runs.{specs.Tasks.{AreKept, first_tests}, proofs.Public.firsts_kept}
use Rattle.class_lists.proofs.ListOrders.{all_in_order, kept_back}
use Rattle.class_lists.proofs.list_simulation.ListSimulation.first_tests.Goals as goal

pub run_alone-requires-clause-classes : goal.run_alone-requires-clause-classes
run_alone-requires-clause-classes c =
    let count = length c.args.job.now.classes.representative in
    subst (All (λ class. class < count)) (sym c.listed-listed.ensures)
    (all_in_order count c.args.classes.now c.in_ok-order.order c.in_ok-order.ensures
    c.requires.classes)

pub returns-clause-firsts : goal.returns-clause-firsts
returns-clause-firsts c =
    let job = c.args.job.now in
    let classes = c.args.classes.now in
    let found = c.in_ok-found.found.items in
    let kept = subst (λ l. AreKept (first_tests job) l found) c.listed-listed.ensures
    c.in_ok-found.ensures.kept in
    let back = firsts_kept job classes _ c.classes.ensures.together c.requires.classes
    (kept_back (first_tests job) None classes c.in_ok-order.order found c.in_ok-order.ensures
    kept) in
    rw (c.in_ok-firsts.ensures) back
