use Rattle.block_sim.proofs.LawOfTable as law
use Rattle.block_sim.proofs.laws.least_is_first.Goals as goal

pub returns : goal.returns
returns c = law.least_is_first
