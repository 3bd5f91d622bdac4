use Rattle.std.proofs.Common.{◌≡◌, ◌∙◌, ◌++◌, ap, subst, sym}
use Rattle.report.specs.EndToEnd.{IsListingOf}
use Rattle.report.proofs.text.listing_bytes.Goals as goal

pub returns-in-Ok-clause-listing : goal.returns-in-Ok-clause-listing
returns-in-Ok-clause-listing c =
    let wrote = c.in-Ok.ensures.written in
    let none = ap (λ v. v.items) c.new-out.ensures.writer ∙ c.new.ensures.items in
    let same : c.into_writer.result.items ≡ wrote.0 = ap (λ v. v.items) c.into_writer.ensures
    ∙ (wrote.2.0 ∙ ap (λ l. l ++ wrote.0) none) in
    subst (IsListingOf c.args.model c.args.bench.now) (sym same) wrote.1
