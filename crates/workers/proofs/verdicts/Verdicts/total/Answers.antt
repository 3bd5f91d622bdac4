use Rattle.std.proofs.Common.{rules}
use Rattle.workers.proofs.verdicts.Verdicts.total.Goals as goal

pub returns : goal.returns
returns c = search rules
