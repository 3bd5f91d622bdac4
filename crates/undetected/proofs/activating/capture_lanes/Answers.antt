use Rattle.undetected.proofs.WordLanes.{seconds_decide}
use Rattle.undetected.proofs.activating.capture_lanes.Goals as goal

pub returns : goal.returns
returns c = seconds_decide
