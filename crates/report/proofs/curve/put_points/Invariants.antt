use Rattle.std.{proofs.Common.take, specs.List.flat_map}
use Rattle.byte_output.specs.Output.{TakesAll}
use Rattle.report.specs.Curve.{point_line}
use Rattle.report.proofs.curve.put_points.Given as goal

-- the lines of the points so far were taken whole
abbrev pub invariant-loop-point : goal.invariant-loop-point
invariant-loop-point g l = TakesAll (g.W.Out.seen l.initial.out) (g.W.Out.seen l.out)
    (flat_map (point_line l.total) (take l.point-index l.points))
