use Rattle.std.proofs.Common.{ℕ, refl, subst}
use Rattle.patterns.specs.Tests.{HasTests}
use Rattle.faultsim_c.proofs.session.Session.read_both.Goals as goal

pub returns-clause-read : goal.returns-clause-read
returns-clause-read c =
    let made = c.in_ok-job.ensures in
    let tests = subst (λ (n : ℕ). HasTests c.args.text.now n c.in_ok-tests.tests)
    c.sources.ensures.count c.in_ok-tests.ensures.tests in
    rw (c.in_ok-of.ensures, made.circuit, made.model, made.tests)
    (c.in_ok-circuit.ensures.accepted, refl, tests)
