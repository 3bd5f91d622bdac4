use Rattle.std.proofs.Common.{◌≡◌}
use Rattle.report.{specs.Curve.curve, proofs.CurvePoints.found_below}
use Rattle.report.proofs.curve.points_of.Given as goal

-- the points of the tests so far, and the faults whose first test is among these
abbrev pub invariant-loop-test : goal.invariant-loop-test
invariant-loop-test l = (l.detected ≡ found_below l.verdicts.firsts l.test)
    × (l.points.items ≡ curve l.test l.verdicts.firsts)
