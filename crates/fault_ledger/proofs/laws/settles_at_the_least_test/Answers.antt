use Rattle.fault_ledger.proofs.LeastTests.{settles_at_least}
use Rattle.fault_ledger.proofs.laws.settles_at_the_least_test.Goals as goal

pub returns : goal.returns
returns c = λ shape table h true_to. settles_at_least shape table h true_to
