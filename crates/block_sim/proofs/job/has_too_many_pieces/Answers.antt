use Rattle.std.proofs.Common.{rules}
use Rattle.block_sim.proofs.job.has_too_many_pieces.Goals as goal

pub returns : goal.returns
returns c = search rules
