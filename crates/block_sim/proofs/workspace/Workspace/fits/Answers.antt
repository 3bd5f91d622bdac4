use Rattle.std.proofs.Common.{rules}
use Rattle.block_sim.proofs.workspace.Workspace.fits.Goals as goal

pub returns : goal.returns
returns c = search rules
