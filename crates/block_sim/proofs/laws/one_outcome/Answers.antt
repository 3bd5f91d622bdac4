use Rattle.block_sim.proofs.TrueTable as law
use Rattle.block_sim.proofs.laws.one_outcome.Goals as goal

pub returns : goal.returns
returns c = law.one_outcome
