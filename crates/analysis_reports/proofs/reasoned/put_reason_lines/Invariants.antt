use Rattle.std.specs.{Prelude.zip, List.{flat_map, slice_range}}
use Rattle.byte_output.specs.Output.{TakesAll}
use Rattle.analysis_reports.specs.Reasons.{reason_line}
use Rattle.analysis_reports.proofs.reasoned.put_reason_lines.Given as goal

-- the lines of the faults so far were taken whole
abbrev pub invariant-loop-fault : goal.invariant-loop-fault
invariant-loop-fault g l = TakesAll (g.W.Out.seen l.initial.out) (g.W.Out.seen l.out)
    (flat_map (reason_line l.circuit) (slice_range (zip l.list.list l.reasons) l.start l.fault))
