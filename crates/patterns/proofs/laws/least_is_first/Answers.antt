use Rattle.std.proofs.Common.{◌≡◌, true}
use Rattle.patterns.proofs.LeastTest.{IsFirstTest-least}
use Rattle.patterns.proofs.laws.least_is_first.Goals as goal

pub returns : goal.returns
returns c = λ passes table tests class first.
    IsFirstTest-least (λ t. passes t ≡ true) table tests class first
