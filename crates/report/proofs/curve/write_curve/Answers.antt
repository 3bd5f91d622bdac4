use Rattle.std.proofs.{Common.{◌≡◌, false, ap, arith, length}, lemmas.Result.err_from_is_err_and}
use Rattle.bench_net.proofs.Public.{some_signal}
use Rattle.fault_model.specs.Fault.{faults}
use Rattle.workers.specs.Verdict.{detected_count}
use Rattle.byte_output.proofs.Public.{takes_more, stopped_after, stopped_before}
use Rattle.report.specs.Report.{coverage_line}
use Rattle.report.proofs.curve.write_curve.Goals as goal

pub prove-unreachable-requires : goal.prove-unreachable-requires
prove-unreachable-requires g c =
    let job = c.args.job.now in
    let together = c.circuit-circuit.ensures.together in
    let has = c.stems.ensures job.list.model job.circuit 0 false
    (some_signal job.circuit together.circuit.well_formed) in
    let list : length job.list.list ≡ length (faults job.list.model job.circuit) =
    ap (λ l. length l.list) together.list in
    omega (arith, has.1, list, c.requires, c.total-total.ensures, c.if-prove.true)

pub returns-in_err-put_points : goal.returns-in_err-put_points
returns-in_err-put_points g c =
    let p = err_from_is_err_and c.from_residual.result c.from_residual.ensures.1 in
    let firsts = c.args.verdicts.now.firsts in
    let wrote = rw (c.total-total.ensures) at c.in_err-put_points.ensures in
    rw (p.1) (stopped_before _ (coverage_line (detected_count firsts) (length firsts)) _ _ wrote)

pub returns-in_err-put_coverage : goal.returns-in_err-put_coverage
returns-in_err-put_coverage g c =
    let p = err_from_is_err_and c.from_residual-in_err-put_coverage.result
    c.from_residual-in_err-put_coverage.ensures.1 in
    rw (p.1, ← c.total-total.ensures, ← c.detected.ensures)
    (stopped_after _ _ _ _ _ c.in_ok-put_points.ensures c.in_err-put_coverage.ensures)

pub returns : goal.returns
returns g c = rw (← c.total-total.ensures, ← c.detected.ensures)
    (takes_more _ _ _ _ _ c.in_ok-put_points.ensures c.in_ok-put_coverage.ensures)
