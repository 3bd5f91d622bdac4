use Rattle.std.proofs.Common.{◌<◌, All, length, subst, sym}
use Rattle.n_detect.specs.ListLanes.{AreListLanes}
use Rattle.class_lists.proofs.ListOrders.{all_in_order, lanes_back}
use Rattle.class_lists.proofs.list_simulation.ListSimulation.lanes.Goals as goal

pub list_lanes-requires-clause-classes : goal.list_lanes-requires-clause-classes
list_lanes-requires-clause-classes c =
    let count = length c.args.job.now.classes.representative in
    subst (All (λ class. class < count)) (sym c.listed-listed.ensures)
    (all_in_order count c.args.classes.now c.in_ok-order.order c.in_ok-order.ensures
    c.requires.classes)

pub returns-clause-lanes : goal.returns-clause-lanes
returns-clause-lanes c =
    let job = c.args.job.now in
    let group = c.args.group in
    let classes = c.args.classes.now in
    let found = c.in_ok-found.found.items in
    let lanes = subst (λ l. AreListLanes job group l found) c.listed-listed.ensures
    c.in_ok-found.ensures.lanes in
    let back = lanes_back job group classes c.in_ok-order.order found c.in_ok-order.ensures
    lanes in
    rw (c.in_ok-lanes.ensures) back
