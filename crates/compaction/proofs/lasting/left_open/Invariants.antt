use Rattle.compaction.specs.Turns.{AreLeftOpen}
use Rattle.compaction.proofs.lasting.left_open.Given as goal

abbrev pub invariant-loop-place : goal.invariant-loop-place
invariant-loop-place l = AreLeftOpen l.classes l.lasts l.place l.left.items
