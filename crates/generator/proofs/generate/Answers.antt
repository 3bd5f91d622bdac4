use Rattle.std.proofs.Common.{◌≢◌, Err, false, sym, ap, subst, ◌∙◌, rules}
use Rattle.report.specs.{EndToEnd.IsReportOf, declared.contents.Lines.TheVariants.Omitted}
use Rattle.job_loading.specs.declared.fault.ReportFault.{ReportFault}
use Rattle.job_loading.specs.declared.fault.SimFault.TheVariants as fault
use Rattle.generator.{specs.Generated.{HasJob, IsFaultOfRun}, proofs.Texts.report_refused}
use Rattle.generator.proofs.generate.Goals as goal

pub returns-in_err-coverage-clause-refused : goal.returns-in_err-coverage-clause-refused
returns-in_err-coverage-clause-refused g c =
    let settings = c.args.settings in
    let bench = c.args.bench.now in
    let text = c.deref.result.now in
    let f = c.in_err-coverage.field-0.0 in
    let has : HasJob settings.model bench text =
    subst (HasJob settings.model bench) (sym c.deref.ensures.value) c.in_ok-tests.ensures.job in
    let unwritten : (r : ReportFault) → f ≢ fault.Report r =
    λ r e. c.report_bytes.ensures.unwritten r (c.in_err-coverage.was ∙ ap Err e) in
    let known : IsFaultOfRun bench settings.workers f =
    report_refused c.one_answer.ensures.one_circuit c.one_answer_of_tests.ensures.not_both
    settings.model bench text settings.workers f has unwritten c.in_err-coverage.ensures.refused in
    let result = c.from_residual-in_err-coverage.ensures in
    search rules

pub returns-clause-coverage : goal.returns-clause-coverage
returns-clause-coverage g c = subst (λ text. IsReportOf c.args.settings.model c.args.bench.now text
    (record { lines = Omitted; classes = false }) c.in_ok-coverage.coverage.items)
    c.deref.ensures.value c.in_ok-coverage.ensures.report
