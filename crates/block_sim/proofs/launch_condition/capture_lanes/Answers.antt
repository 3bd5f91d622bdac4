use Rattle.block_sim.proofs.Pairs.{seconds_decide}
use Rattle.block_sim.proofs.launch_condition.capture_lanes.Goals as goal

pub returns : goal.returns
returns c = seconds_decide
