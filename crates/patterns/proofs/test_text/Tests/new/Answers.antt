use Rattle.std.proofs.Common.{arith}
use Rattle.patterns.proofs.TestWords.{tests_of-none}
use Rattle.patterns.proofs.test_text.Tests.new.Goals as goal

pub returns-clause-tests : goal.returns-clause-tests
returns-clause-tests c = rw (tests_of-none c.args.width)

pub returns-clause-list : goal.returns-clause-list
returns-clause-list c = rw (tests_of-none c.args.width)
    (record { each = λ k d h. absurd (omega (arith, h)); count = omega arith })
