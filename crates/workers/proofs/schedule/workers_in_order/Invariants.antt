use Rattle.std.proofs.Common.{◌≡◌}
use Rattle.patterns.specs.Least.{below}
use Rattle.workers.proofs.schedule.workers_in_order.Given as goal

abbrev pub invariant-loop-worker : goal.invariant-loop-worker
invariant-loop-worker l = l.everyone.items ≡ below l.worker
