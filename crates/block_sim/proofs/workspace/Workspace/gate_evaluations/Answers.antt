use Rattle.std.proofs.Common.{rules}
use Rattle.block_sim.proofs.workspace.Workspace.gate_evaluations.Goals as goal

pub returns : goal.returns
returns c = search rules
