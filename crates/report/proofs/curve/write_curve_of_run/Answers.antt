use Rattle.std.proofs.{Common.{◌≡◌, ◌∙◌, ap, length, sym}, lemmas.Result.err_from_is_err_and}
use Rattle.fault_model.specs.Fault.{FaultList}
use Rattle.region_runs.specs.RunJobs.{RunView}
use Rattle.report.{specs.Curve.{curve, curve_text}, proofs.VerdictsOfRuns.verdicts_counted}
use Rattle.report.proofs.curve.write_curve_of_run.Goals as goal

pub returns-in_err-write_curve-clause-written : goal.returns-in_err-write_curve-clause-written
returns-in_err-write_curve-clause-written g c =
    let p = err_from_is_err_and c.from_residual-in_err-write_curve.result
    c.from_residual-in_err-write_curve.ensures.1 in
    let firsts = c.in_ok-verdicts.verdicts.firsts in
    let count = c.count.ensures ∙ ap (λ t. length t.tests) c.tests.ensures.tests
    ∙ ap (λ (r : RunView). length r.whole.tests.tests) c.in_ok-verdicts.ensures.kept in
    let same : c.deref.result.now ≡ curve (length c.args.run.now.whole.tests.tests) firsts =
    c.deref.ensures.value ∙ (c.in_ok-points.ensures ∙ ap (λ n. curve n firsts) count) in
    rw (p.1, p.2) (
      curve_text c.deref.result.now firsts,
      (firsts, c.in_ok-verdicts.ensures.firsts, ap (λ ps. curve_text ps firsts) same),
      c.in_err-write_curve.ensures,
    )

pub returns-clause-written : goal.returns-clause-written
returns-clause-written g c =
    let firsts = c.in_ok-verdicts.verdicts.firsts in
    let count = c.count.ensures ∙ ap (λ t. length t.tests) c.tests.ensures.tests
    ∙ ap (λ (r : RunView). length r.whole.tests.tests) c.in_ok-verdicts.ensures.kept in
    let same : c.deref.result.now ≡ curve (length c.args.run.now.whole.tests.tests) firsts =
    c.deref.ensures.value ∙ (c.in_ok-points.ensures ∙ ap (λ n. curve n firsts) count) in (
      curve_text c.deref.result.now firsts,
      (firsts, c.in_ok-verdicts.ensures.firsts, ap (λ ps. curve_text ps firsts) same),
      c.in_ok-write_curve.ensures,
    )

pub write_curve-requires : goal.write_curve-requires
write_curve-requires g c =
    verdicts_counted c.args.run.now.whole c.in_ok-verdicts.verdicts.firsts c.requires.job
    c.in_ok-verdicts.ensures.firsts ∙ sym (ap (λ (l : FaultList). length l.list) c.job.ensures.list
    ∙ ap (λ (r : RunView). length r.whole.list.list) c.in_ok-verdicts.ensures.kept)
