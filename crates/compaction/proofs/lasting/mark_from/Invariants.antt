use Rattle.compaction.specs.Turns.{HaveMarked}
use Rattle.compaction.proofs.lasting.mark_from.Given as goal

-- the lasts so far are marked
abbrev pub invariant-loop-last : goal.invariant-loop-last
invariant-loop-last l = HaveMarked l.start l.lasts l.last-index l.initial.marks l.marks
