use Rattle.fault_ledger.proofs.FirstHits.{settled_at_first}
use Rattle.fault_ledger.proofs.laws.settled_at_the_first_hit.Goals as goal

pub returns : goal.returns
returns c = λ shape h class at. settled_at_first shape h class at
