use Rattle.block_sim.proofs.TrueTable as law
use Rattle.block_sim.proofs.laws.true_table.Goals as goal

pub returns : goal.returns
returns c = law.true_table
