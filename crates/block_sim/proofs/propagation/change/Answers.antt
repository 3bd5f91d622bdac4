use Rattle.std.proofs.Common.{arith}
use Rattle.flat_circuit.proofs.Public.{some_lane}
use Rattle.block_sim.proofs.propagation.change.Goals as goal

pub returns-then-schedule_fanout-clause-some : goal.returns-then-schedule_fanout-clause-some
returns-then-schedule_fanout-clause-some c = some_lane c.args.diff (omega arith) c.requires.differs

pub returns-else-schedule_fanout-clause-some : goal.returns-else-schedule_fanout-clause-some
returns-else-schedule_fanout-clause-some c = some_lane c.args.diff (omega arith) c.requires.differs
