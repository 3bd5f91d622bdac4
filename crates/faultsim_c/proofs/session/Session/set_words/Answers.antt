use Rattle.std.proofs.Common.{rules, ◌≡◌, ◌⊎◌, ℕ, length, subst}
use Rattle.std.proofs.lemmas.Result.{err_from_is_err_and}
use Rattle.bench_net.specs.Scan.{sources}
use Rattle.patterns.specs.Making.{IsWordsRefusal}
use Rattle.patterns.specs.declared.WordsFault.TheVariants as words
use Rattle.faultsim_c.proofs.session.Session.set_words.Goals as goal

pub returns-in_err-tests-clause-refused : goal.returns-in_err-tests-clause-refused
returns-in_err-tests-clause-refused c =
    let p = err_from_is_err_and c.from_residual.result c.from_residual.ensures.1 in
    let f = c.in_err-tests.field-0.0 in
    let width : c.sources.result ≡ length (sources c.args.self.now.circuit) = search rules in
    rw (p.1, p.2) (subst (λ (n : ℕ). (f ≡ words.Memory)
    ⊎ IsWordsRefusal n c.args.count c.args.words.now f) width c.in_err-tests.ensures.refused)
