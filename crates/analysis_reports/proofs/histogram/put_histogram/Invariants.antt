use Rattle.std.{proofs.Common.{length, take}, specs.Prelude.zip, specs.List.flat_map}
use Rattle.patterns.specs.Least.{below}
use Rattle.byte_output.specs.Output.{TakesAll}
use Rattle.analysis_reports.specs.Histogram.{histogram_line}
use Rattle.analysis_reports.proofs.histogram.put_histogram.Given as goal

-- the lines of the counts so far were taken whole
abbrev pub invariant-loop-count : goal.invariant-loop-count
invariant-loop-count g l = TakesAll (g.W.Out.seen l.initial.out) (g.W.Out.seen l.out)
    (flat_map histogram_line (take l.count (zip (below (length l.faults)) l.faults)))
