use Rattle.std.proofs.Common.{arith}
use Rattle.generator.proofs.KeptTests.{set_mark, set_only}
use Rattle.generator.proofs.keeping.need_one.Goals as goal

pub returns-clause-noted : goal.returns-clause-noted
returns-clause-noted c = λ block word at ne. (
  c.args.test,
  set_mark c.args.marks.now c.args.test (omega (arith, c.requires.marks, c.requires.test)),
)

pub returns-clause-some : goal.returns-clause-some
returns-clause-some c = (
  c.args.test,
  set_mark c.args.marks.now c.args.test (omega (arith, c.requires.marks, c.requires.test)),
)

pub returns-clause-only : goal.returns-clause-only
returns-clause-only c = λ t e. set_only c.args.marks.now c.args.test t e
