use Rattle.std.proofs.Common.{◌<◌, ◌≤◌, ◌^◌, arith, length}
use Rattle.region_runs.proofs.FaultFirsts.{pieces_room}
use Rattle.region_runs.proofs.PartsOfClasses.{behind_within, small_product}
use Rattle.region_runs.proofs.fault_firsts.skipped_after.Goals as goal

pub overflow_add-skipped : goal.overflow_add-skipped
overflow_add-skipped c =
    let room = pieces_room c.args.blocks c.args.firsts.now c.loop-first.first-index
    c.loop-first-test.true in
    let own : c.blocks_after-more.result ≤ c.args.blocks =
    behind_within c.args.blocks _ _ c.blocks_after-more.ensures in
    let small : c.args.blocks < 2 ^ 32 = omega arith in
    let few = small_product (length c.args.firsts.now) c.args.blocks c.requires small in
    omega (arith, room, own, few, c.loop-first.invariant, c.from-skipped.ensures)
