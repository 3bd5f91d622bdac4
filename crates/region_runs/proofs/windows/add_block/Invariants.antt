use Rattle.region_runs.proofs.WindowWords.{Adds}
use Rattle.region_runs.proofs.windows.add_block.Given as goal

abbrev pub invariant-loop-source : goal.invariant-loop-source
invariant-loop-source l = Adds l.tests l.block l.fn.words.items l.words.items l.source
