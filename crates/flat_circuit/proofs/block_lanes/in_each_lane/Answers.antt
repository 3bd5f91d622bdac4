use Rattle.std.proofs.Common.{◌∙◌, sym}
use Rattle.flat_circuit.proofs.Lanes.{lane_ones}
use Rattle.flat_circuit.proofs.block_lanes.in_each_lane.Goals as goal

pub returns-then-bit : goal.returns-then-bit
returns-then-bit c = λ k lt. lane_ones 128 k lt ∙ sym c.if-bit.true
