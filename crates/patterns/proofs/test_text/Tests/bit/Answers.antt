use Rattle.std.proofs.{Common.arith, lemmas.Grind.common_steps}
use Rattle.patterns.proofs.test_text.Tests.bit.Goals as goal

pub returns : goal.returns
returns c = grind (arith, common_steps)
