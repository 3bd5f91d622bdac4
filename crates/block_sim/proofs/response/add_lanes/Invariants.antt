use Rattle.std.proofs.Common.{◌≡◌, ◌++◌, map}
use Rattle.patterns.specs.Least.{below}
use Rattle.block_sim.specs.Responses.{lane_row}
use Rattle.block_sim.proofs.response.add_lanes.Given as goal

abbrev pub invariant-loop-lane : goal.invariant-loop-lane
invariant-loop-lane l = record {
  rows : l.rows.tests ≡ l.initial.rows.tests ++ map (lane_row l.observed l.words) (below l.lane);
  width : l.rows.width ≡ l.initial.rows.width;
}
