use Rattle.patterns.proofs.LeastTest.{least-from_least_hit, least-from_clear, IsLeastHit-from_least}
use Rattle.patterns.proofs.LeastTest.{AreClear-from_least}
use Rattle.patterns.proofs.laws.least_hit.Goals as goal

pub returns-clause-hit : goal.returns-clause-hit
returns-clause-hit c = λ table blocks class t.
    (IsLeastHit-from_least table blocks class t, least-from_least_hit table blocks class t)

pub returns-clause-clear : goal.returns-clause-clear
returns-clause-clear c = λ table blocks class.
    (AreClear-from_least table blocks class, least-from_clear table blocks class)
