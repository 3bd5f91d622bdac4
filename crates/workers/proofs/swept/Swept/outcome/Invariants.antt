use Rattle.std.proofs.Common.{◌+◌, ◌-◌}
use Rattle.workers.specs.Swept.{IsSweptOf}
use Rattle.workers.proofs.swept.Swept.outcome.Given as goal

abbrev pub invariant-loop-self : goal.invariant-loop-self
invariant-loop-self l = IsSweptOf l.job l.self

abbrev pub decreases-loop-self : goal.decreases-loop-self
decreases-loop-self l = l.block + 1 - l.self.blocks
