use Rattle.std.{proofs.Common.take, specs.List.flat_map}
use Rattle.byte_output.specs.Output.{TakesAll}
use Rattle.analysis_reports.specs.Blocks.{row_line}
use Rattle.analysis_reports.proofs.blocks.put_lines.Given as goal

-- the lines of the rows so far were taken whole
abbrev pub invariant-loop-row : goal.invariant-loop-row
invariant-loop-row g l = TakesAll (g.W.Out.seen l.initial.out) (g.W.Out.seen l.out)
    (flat_map row_line (take l.row-index l.rows))
