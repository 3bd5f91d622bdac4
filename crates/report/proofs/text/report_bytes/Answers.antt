use Rattle.std.proofs.Common.{◌≡◌, ◌∙◌, ◌++◌, ap, subst, sym}
use Rattle.report.specs.EndToEnd.{IsReportOf}
use Rattle.report.proofs.text.report_bytes.Goals as goal

pub returns-in-Ok-clause-report : goal.returns-in-Ok-clause-report
returns-in-Ok-clause-report g c =
    let wrote = c.in-Ok.ensures.written in
    let none = ap (λ v. v.items) c.new-out.ensures.writer ∙ c.new.ensures.items in
    let same : c.into_writer.result.items ≡ wrote.0 = ap (λ v. v.items) c.into_writer.ensures
    ∙ (wrote.2.0 ∙ ap (λ l. l ++ wrote.0) none) in
    subst (IsReportOf c.args.model c.args.bench.now c.args.tests.now c.args.contents) (sym same)
    wrote.1
