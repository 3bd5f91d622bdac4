use Rattle.std.proofs.Common.{◌≡◌}
use Rattle.simulation_tests.proofs.ledger.threads.work.Given as goal

abbrev pub invariant-loop : goal.invariant-loop
invariant-loop l = l.seat.place ≡ l.ledger
