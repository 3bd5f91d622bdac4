use Rattle.std.proofs.Common.{◌-◌, ◌≤◌, length}
use Rattle.byte_output.specs.Output.{TakesAll}
use Rattle.threaded_lines.specs.Texts.{text_between}
use Rattle.threaded_lines.proofs.in_threads.put_in_threads.Given as goal

-- the lines of the faults so far were taken whole
abbrev pub invariant-loop-place : goal.invariant-loop-place
invariant-loop-place g l = record {
  low : l.place ≤ length (g.L.FaultLines.texts l.lines);
  taken : TakesAll (g.W.Out.seen l.initial.out) (g.W.Out.seen l.out)
      (text_between (g.L.FaultLines.texts l.lines) 0 l.place);
}

abbrev pub decreases-loop-place : goal.decreases-loop-place
decreases-loop-place g l = l.count - l.place
