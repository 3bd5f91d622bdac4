use Rattle.std.proofs.{Common.length, lemmas.Result.err_from_is_err_and}
use Rattle.workers.specs.Verdict.{detected_count}
use Rattle.byte_output.proofs.Public.{writes_then, stopped_before}
use Rattle.report.specs.Report.{coverage_line}
use Rattle.report.proofs.in_threads.put_report_in_threads.Goals as goal

pub returns-in_err-put_firsts_in_threads : goal.returns-in_err-put_firsts_in_threads
returns-in_err-put_firsts_in_threads g c =
    let p = err_from_is_err_and c.from_residual.result c.from_residual.ensures.1 in
    let wrote = rw (
      c.circuit-circuit.ensures.part,
      c.faults-list.ensures.part,
    ) at c.in_err-put_firsts_in_threads.ensures in
    rw (p.1) (stopped_before _ (coverage_line (detected_count c.args.verdicts.now.firsts)
    (length c.args.verdicts.now.firsts)) _ _ wrote)

pub returns : goal.returns
returns g c =
    let wrote = rw (
      c.circuit-circuit.ensures.part,
      c.faults-list.ensures.part,
    ) at c.in_ok-put_firsts_in_threads.ensures in
    writes_then _ _ _ _ _ _ wrote c.put_total.ensures
