use Rattle.std.proofs.Common.{ap}
use Rattle.patterns.proofs.TestWords.{IsTestList-from_words}
use Rattle.patterns.proofs.test_text.Tests.width.Goals as goal

pub returns-clause-width : goal.returns-clause-width
returns-clause-width c = ap (λ t. t.width) c.self.view_is

pub returns-clause-tests : goal.returns-clause-tests
returns-clause-tests c = rw (← c.self.view_is) (IsTestList-from_words _ _ _ c.self.invariant)
