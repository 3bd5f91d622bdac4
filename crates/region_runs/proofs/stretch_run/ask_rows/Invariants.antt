use Rattle.region_runs.specs.BlockSweeps.{AreAllNotStopped}
use Rattle.region_runs.proofs.stretch_run.ask_rows.Given as goal

abbrev pub invariant-loop-row : goal.invariant-loop-row
invariant-loop-row g l =
    AreAllNotStopped l.rows l.worker (g.G.Gate.stops l.gate) l.block l.row-index
