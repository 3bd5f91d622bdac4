use Rattle.std.proofs.Common.{◌<◌, ◌≤◌, ℕ, length}
use Rattle.region_runs.specs.BlockSweeps.{AreAllNotStopped}
use Rattle.region_runs.proofs.stretch_run.ask_dead.Given as goal

abbrev pub invariant-loop-block : goal.invariant-loop-block
invariant-loop-block g l = (b : ℕ) → l.from ≤ b → b < l.block
    → AreAllNotStopped l.rows l.worker (g.G.Gate.stops l.gate) b (length l.rows)
