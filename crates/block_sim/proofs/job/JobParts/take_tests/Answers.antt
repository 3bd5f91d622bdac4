use Rattle.std.proofs.Common.{rules}
use Rattle.block_sim.proofs.job.JobParts.take_tests.Goals as goal

pub returns : goal.returns
returns c = search rules
