use Rattle.std.{proofs.Common.{◌<◌, All, length, subst, sym}, specs.Prelude.nat_lt}
use Rattle.region_runs.specs.Tasks.{AreKept, task_of}
use Rattle.n_detect.specs.HitCounts.{IsHitCount}
use Rattle.class_lists.proofs.{ClassCounts.counts_are, ListOrders.{all_in_order, kept_back}}
use Rattle.class_lists.proofs.list_simulation.ListSimulation.detections.Goals as goal

pub counts_of-requires-clause-classes : goal.counts_of-requires-clause-classes
counts_of-requires-clause-classes c =
    let count = length c.args.job.now.classes.representative in
    subst (All (λ class. class < count)) (sym c.listed-listed.ensures)
    (all_in_order count c.args.classes.now c.in_ok-order.order c.in_ok-order.ensures
    c.requires.classes)

pub returns-clause-counts : goal.returns-clause-counts
returns-clause-counts c =
    let job = c.args.job.now in
    let classes = c.args.classes.now in
    let most = c.args.most in
    let order = c.in_ok-order.order in
    let found = c.in_ok-found.found.items in
    let task = task_of job 0 (λ n. nat_lt n most) (IsHitCount most) in
    let kept = subst (λ l. AreKept task l found) c.listed-listed.ensures
    c.in_ok-found.ensures.counts in
    let back = counts_are job most classes _ c.classes.ensures.together c.requires.classes
    (kept_back task 0 classes order found c.in_ok-order.ensures kept) in
    rw (c.in_ok-counts.ensures) back
