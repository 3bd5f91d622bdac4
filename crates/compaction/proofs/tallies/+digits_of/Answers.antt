use Rattle.std.proofs.Common.{arith}
use Rattle.compaction.proofs.TallyDigits.{doubled}
use Rattle.compaction.proofs.tallies.+digits_of.Goals as goal

pub returns-else-number-eq0-clause-enough : goal.returns-else-number-eq0-clause-enough
returns-else-number-eq0-clause-enough t c =
    omega (arith, c.digits_of.ensures.enough, doubled c.digits_of.result)
