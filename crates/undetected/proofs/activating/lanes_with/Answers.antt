use Rattle.std.proofs.Common.{arith}
use Rattle.undetected.proofs.WordLanes.{with_false, with_true}
use Rattle.undetected.proofs.activating.lanes_with.Goals as goal

pub returns-then-bit : goal.returns-then-bit
returns-then-bit c = λ k lt. with_true c.args.word k c.args.bit c.if-bit.true

pub returns-else-bit : goal.returns-else-bit
returns-else-bit c = λ k lt. with_false c.args.word k c.args.bit (omega arith) lt c.if-bit.false
