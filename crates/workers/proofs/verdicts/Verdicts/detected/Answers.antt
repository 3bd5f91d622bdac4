use Rattle.std.proofs.Common.{rules}
use Rattle.workers.proofs.verdicts.Verdicts.detected.Goals as goal

pub returns : goal.returns
returns c = search rules
