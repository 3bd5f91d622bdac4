use Rattle.std.proofs.Common.{rules}
use Rattle.fault_ledger.proofs.words.state_at.Goals as goal

pub returns-in-1 : goal.returns-in-1
returns-in-1 c = search rules
