use Rattle.std.proofs.Common.{◌≡◌, sym, ap, ◌∙◌, subst, arith, take_all}
use Rattle.patterns.specs.{Making.test_text, Tests.HasTests}
use Rattle.patterns.proofs.WrittenTests.{HasTests-written}
use Rattle.patterns.proofs.test_text.write_tests.Goals as goal

pub returns-clause-read : goal.returns-clause-read
returns-clause-read c = λ some.
    let tests = c.args.tests.now in
    let whole : c.loop-test.text.items ≡ test_text tests.tests =
    c.loop-test.invariant ∙ ap test_text (take_all c.loop-test.test tests.tests
    (omega (arith, c.loop-test-test.false, c.count-test-end.ensures)))
    in subst (λ text. HasTests text tests.width tests) (sym whole)
    (HasTests-written tests c.width.ensures.tests some)
