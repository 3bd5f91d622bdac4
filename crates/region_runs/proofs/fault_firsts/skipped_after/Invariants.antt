use Rattle.std.proofs.Common.{◌≡◌, take}
use Rattle.workers.specs.Verdict.{pieces_after}
use Rattle.region_runs.proofs.fault_firsts.skipped_after.Given as goal

abbrev pub invariant-loop-first : goal.invariant-loop-first
invariant-loop-first l = l.skipped ≡ pieces_after l.blocks (take l.first-index l.firsts)
