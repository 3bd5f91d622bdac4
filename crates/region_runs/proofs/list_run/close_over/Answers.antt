use Rattle.std.proofs.Common.{arith}
use Rattle.region_runs.proofs.SharedStretches.{apart_placed}
use Rattle.region_runs.proofs.list_run.close_over.Goals as goal

pub close-requires-clause-some : goal.close-requires-clause-some
close-requires-clause-some g c =
    omega (arith, c.requires.some, c.in_ok-returned.ensures.seats_count)

pub close-requires-clause-places : goal.close-requires-clause-places
close-requires-clause-places g c =
    apart_placed c.args.ledger c.args.back.items c.in_ok-returned.returned.seats.items
    c.in_ok-returned.returned.dones.items c.in_ok-returned.ensures c.requires.places

pub returns-in-Ok-clause-closed : goal.returns-in-Ok-clause-closed
returns-in-Ok-clause-closed g c = (
  c.in_ok-returned.returned.seats.items,
  c.in_ok-returned.ensures,
  c.in-Ok.ensures.closed,
)
