use Rattle.std.proofs.Common.{◌≡◌, ◌-◌, map}
use Rattle.patterns.specs.Least.{below}
use Rattle.fault_ledger.specs.{Seats.newcomer, Words.newcomer_posts}
use Rattle.fault_ledger.proofs.shared.seats_of.Given as goal

abbrev pub invariant-loop-worker : goal.invariant-loop-worker
invariant-loop-worker l = record {
  place : l.group.place ≡ l.words;
  posts : l.group.posts ≡ newcomer_posts l.worker (l.shape.workers - l.worker);
  seats : l.seats.items ≡ map (newcomer l.words) (below l.worker);
}
