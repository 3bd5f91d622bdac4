use Rattle.std.proofs.Common.{◌≡◌}
use Rattle.workers.proofs.claim_backoff.rest.Given as goal

abbrev pub invariant-loop-before : goal.invariant-loop-before
invariant-loop-before l = l.paused ≡ l.before
