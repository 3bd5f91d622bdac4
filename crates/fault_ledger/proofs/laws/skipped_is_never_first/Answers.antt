use Rattle.fault_ledger.proofs.LegalHistories.{never_first}
use Rattle.fault_ledger.proofs.laws.skipped_is_never_first.Goals as goal

pub returns : goal.returns
returns c = λ shape h legal. never_first shape h legal
