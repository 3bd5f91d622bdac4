use Rattle.std.proofs.Common.{◌/◌, arith}
use Rattle.compaction.proofs.lasting.start_of.Goals as goal

pub returns-clause-even : goal.returns-clause-even
returns-clause-even c = (c.saturating_sub.result / 2, omega arith)
