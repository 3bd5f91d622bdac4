use Rattle.std.proofs.Common.{◌≡◌, ◌∙◌, true, length, arith, ap, sym}
use Rattle.std.proofs.lemmas.Result.{err_from_is_err_and}
use Rattle.fault_model.specs.Fault.{FaultList}
use Rattle.byte_output.proofs.Public.{takes_more, stopped_before, stopped_after}
use Rattle.bench_net.proofs.Public.{some_signal}
use Rattle.analysis_reports.specs.Detected.{reached_count}
use Rattle.report.specs.Report.{coverage_line}
use Rattle.analysis_reports.proofs.detected.write_detections.Goals as goal

pub prove-unreachable-requires : goal.prove-unreachable-requires
prove-unreachable-requires g c = let some =
    some_signal c.circuit-circuit.result.now c.signals-signals.ensures.circuit.well_formed in
    omega (arith, some)

pub returns-in_err-put_lines : goal.returns-in_err-put_lines
returns-in_err-put_lines g c =
    let p = err_from_is_err_and c.from_residual-in_err-put_lines.result
    c.from_residual-in_err-put_lines.ensures.1 in
    let listed : c.args.listed ≡ true = c.if-not-listed.false in
    let wrote = rw (
      c.circuit-circuit.ensures.part,
      c.faults-list.ensures.part,
    ) at c.in_err-put_lines.ensures in
    rw (p.1, listed) (stopped_before _ (coverage_line (reached_count c.args.most c.args.counts.now)
    (length c.args.counts.now)) _ _ wrote)

pub returns-in_err-put_coverage-2 : goal.returns-in_err-put_coverage-2
returns-in_err-put_coverage-2 g c =
    let p = err_from_is_err_and c.from_residual-in_err-put_coverage-2.result
    c.from_residual-in_err-put_coverage-2.ensures.1 in
    let listed : c.args.listed ≡ true = c.if-not-listed.false in
    let total : c.count-2.result ≡ length c.args.counts.now = c.count-2.ensures
    ∙ ap (λ (l : FaultList). length l.list) c.faults-list.ensures.part ∙ sym c.requires.count in
    let wrote = rw (
      c.circuit-circuit.ensures.part,
      c.faults-list.ensures.part,
    ) at c.in_ok-put_lines.ensures in
    rw (p.1, listed, ← total, ← c.count_reached-found.ensures)
    (stopped_after _ _ _ _ _ wrote c.in_err-put_coverage-2.ensures)

pub returns : goal.returns
returns g c =
    let listed : c.args.listed ≡ true = c.if-not-listed.false in
    let total : c.count-2.result ≡ length c.args.counts.now = c.count-2.ensures
    ∙ ap (λ (l : FaultList). length l.list) c.faults-list.ensures.part ∙ sym c.requires.count in
    let wrote = rw (
      c.circuit-circuit.ensures.part,
      c.faults-list.ensures.part,
    ) at c.in_ok-put_lines.ensures in
    rw (listed, ← total, ← c.count_reached-found.ensures)
    (takes_more _ _ _ _ _ wrote c.in_ok-put_coverage-2.ensures)
