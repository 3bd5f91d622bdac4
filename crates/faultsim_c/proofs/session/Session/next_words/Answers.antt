use Rattle.std.proofs.Common.{rules, ◌≡◌, ◌⊎◌, ℕ, length, subst}
use Rattle.std.proofs.lemmas.Result.{err_from_is_err_and}
use Rattle.bench_net.specs.Scan.{sources}
use Rattle.patterns.specs.Making.{IsWordsRefusal}
use Rattle.patterns.specs.declared.WordsFault.TheVariants as words
use Rattle.faultsim_c.{specs.Statuses.AreTooMany, proofs.Replies.words_or_many}
use Rattle.faultsim_c.proofs.session.Session.next_words.Goals as goal

pub returns-in_err-new-clause-refused : goal.returns-in_err-new-clause-refused
returns-in_err-new-clause-refused c =
    let p = err_from_is_err_and c.from_residual.result c.from_residual.ensures.1 in
    let f = c.in_err-new.field-0.0 in
    let old = c.args.self.now.tests.tests in
    let count = c.args.count in
    let ws = c.args.words.now in
    let width : c.sources.result ≡ length (sources c.args.self.now.circuit) = search rules in
    rw (p.1, p.2) (subst (λ (n : ℕ). (f ≡ words.Memory)
    ⊎ (IsWordsRefusal n count ws f ⊎ AreTooMany old count f)) width
    (words_or_many old c.sources.result count ws f c.in_err-new.ensures.refused))
