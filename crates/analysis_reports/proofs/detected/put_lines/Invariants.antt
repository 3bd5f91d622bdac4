use Rattle.std.{proofs.Common.take, specs.Prelude.zip, specs.List.flat_map}
use Rattle.byte_output.specs.Output.{TakesAll}
use Rattle.analysis_reports.specs.Detected.{count_line}
use Rattle.analysis_reports.proofs.detected.put_lines.Given as goal

-- the lines of the faults so far were taken whole
abbrev pub invariant-loop-fault : goal.invariant-loop-fault
invariant-loop-fault g l = TakesAll (g.W.Out.seen l.initial.out) (g.W.Out.seen l.out)
    (flat_map (count_line l.circuit) (take l.fault (zip l.list.list l.counts)))
