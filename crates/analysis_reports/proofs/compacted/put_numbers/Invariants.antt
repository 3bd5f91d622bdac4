use Rattle.std.{proofs.Common.take, specs.List.flat_map}
use Rattle.byte_output.specs.Output.{TakesAll}
use Rattle.analysis_reports.specs.Compacted.{number_line}
use Rattle.analysis_reports.proofs.compacted.put_numbers.Given as goal

-- the lines of the numbers so far were taken whole
abbrev pub invariant-loop-number : goal.invariant-loop-number
invariant-loop-number g l = TakesAll (g.W.Out.seen l.initial.out) (g.W.Out.seen l.out)
    (flat_map number_line (take l.number-index l.numbers))
