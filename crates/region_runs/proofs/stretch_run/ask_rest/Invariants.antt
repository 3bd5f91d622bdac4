use Rattle.std.proofs.Common.{◌<◌, ℕ, length}
use Rattle.region_runs.specs.BlockSweeps.{AreNotStopped}
use Rattle.region_runs.proofs.stretch_run.ask_rest.Given as goal

abbrev pub invariant-loop-block : goal.invariant-loop-block
invariant-loop-block g l = (b : ℕ) → l.fn.span.first < b → b < l.block
    → AreNotStopped (g.A.Goal.wants l.goal) l.rows l.kept l.worker (g.G.Gate.stops l.gate) b
    (length l.rows)
