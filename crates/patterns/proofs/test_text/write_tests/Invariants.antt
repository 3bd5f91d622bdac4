use Rattle.std.proofs.Common.{◌≡◌, take}
use Rattle.patterns.specs.Making.{test_text}
use Rattle.patterns.proofs.test_text.write_tests.Given as goal

abbrev pub invariant-loop-test : goal.invariant-loop-test
invariant-loop-test l = l.text.items ≡ test_text (take l.test l.tests.tests)
