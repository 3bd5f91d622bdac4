use Rattle.std.proofs.Common.{◌≡◌, ◌∙◌, ap, arith, length, refl, sym}
use Rattle.std.proofs.lemmas.Result.{err_from_is_err_and}
use Rattle.bench_net.proofs.Public.{some_signal}
use Rattle.fault_model.specs.Fault.{FaultList}
use Rattle.analysis_reports.{specs.BlockingReports.blocking_text, proofs.BlockingTexts.pins_named}
use Rattle.analysis_reports.proofs.blocking.write_blocking.Goals as goal

pub prove-unreachable-requires : goal.prove-unreachable-requires
prove-unreachable-requires g c =
    let some = some_signal c.circuit-circuit.result.now
    c.signals-signals.ensures.circuit.well_formed in
    omega (arith, some)

pub put_blocking-requires-clause-each : goal.put_blocking-requires-clause-each
put_blocking-requires-clause-each g c = rw (c.circuit-circuit.ensures.part, c.deref.ensures.value)
    (pins_named c.args.job.now c.in_ok-pins.pins.items c.circuit-circuit.ensures.together
    c.in_ok-pins.ensures.each)

pub returns-in_err-put_blocking-clause-written : goal.returns-in_err-put_blocking-clause-written
returns-in_err-put_blocking-clause-written g c =
    let p = err_from_is_err_and c.from_residual-in_err-put_blocking.result
    c.from_residual-in_err-put_blocking.ensures.1 in
    let flags = c.args.detected.now in
    let rows = c.in_ok-pins.pins.items in
    let all : c.count-faults.result ≡ length flags = c.count-faults.ensures
    ∙ (ap (λ (l : FaultList). length l.list) c.faults.ensures.part ∙ sym c.requires.count) in
    let wrote = rw (
      c.circuit-circuit.ensures.part,
      c.deref.ensures.value,
      c.count_flags.ensures,
      all,
    ) at c.in_err-put_blocking.ensures in
    rw (p.1, p.2) (
      blocking_text c.args.job.now.circuit flags rows,
      (rows, c.in_ok-pins.ensures, refl),
      wrote,
    )

pub returns-clause-written : goal.returns-clause-written
returns-clause-written g c =
    let flags = c.args.detected.now in
    let rows = c.in_ok-pins.pins.items in
    let all : c.count-faults.result ≡ length flags = c.count-faults.ensures
    ∙ (ap (λ (l : FaultList). length l.list) c.faults.ensures.part ∙ sym c.requires.count) in
    let wrote = rw (
      c.circuit-circuit.ensures.part,
      c.deref.ensures.value,
      c.count_flags.ensures,
      all,
    ) at c.in_ok-put_blocking.ensures in (
      blocking_text c.args.job.now.circuit flags rows,
      (rows, c.in_ok-pins.ensures, refl),
      wrote,
    )
