use Rattle.std.specs.{Prelude.zip, List.{flat_map, slice_range}}
use Rattle.byte_output.specs.Output.{TakesAll}
use Rattle.report.specs.Report.{wanted_line}
use Rattle.report.proofs.report.put_lines.Given as goal

-- the lines of the faults so far were taken whole
abbrev pub invariant-loop-fault : goal.invariant-loop-fault
invariant-loop-fault g l = TakesAll (g.W.Out.seen l.initial.out) (g.W.Out.seen l.out)
    (flat_map (wanted_line l.lines l.circuit)
    (slice_range (zip l.list.list l.verdicts.firsts) l.start l.fault))
