use Rattle.std.proofs.Common.{rules}
use Rattle.fault_ledger.proofs.calls.reply_to.Goals as goal

pub returns-else-class-shape : goal.returns-else-class-shape
returns-else-class-shape c = search rules
