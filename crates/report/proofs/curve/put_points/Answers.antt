use Rattle.std.proofs.{Common.refl, lemmas.Result.err_from_is_err_and}
use Rattle.byte_output.proofs.Public.{takes_more, stopped, flat_map_cut, flat_map_taken}
use Rattle.report.specs.Curve.{point_line}
use Rattle.report.proofs.curve.put_points.Goals as goal

pub returns-in_err-put_point : goal.returns-in_err-put_point
returns-in_err-put_point g c =
    let p = err_from_is_err_and c.from_residual.result c.from_residual.ensures.1 in
    rw (p.1) (stopped _ _ _ _ _ _ _ c.loop-point.invariant c.in_err-put_point.ensures
    (flat_map_cut (point_line c.args.total) c.args.points.now c.loop-point.point-index
    (record { test = 0; gained = 0; detected = 0 }) _ c.loop-point-test.true refl))

pub loop-point-preserved : goal.loop-point-preserved
loop-point-preserved g c =
    rw (flat_map_taken (point_line c.args.total) c.args.points.now c.loop-point.point-index
    (record { test = 0; gained = 0; detected = 0 }) _ c.loop-point-test.true refl)
    (takes_more _ _ _ _ _ c.loop-point.invariant c.in_ok-put_point.ensures)
