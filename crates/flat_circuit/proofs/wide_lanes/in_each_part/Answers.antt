use Rattle.std.proofs.Common.{◌∙◌, sym}
use Rattle.flat_circuit.proofs.Lanes.{lane_ones}
use Rattle.flat_circuit.proofs.wide_lanes.in_each_part.Goals as goal

pub returns-then-bit : goal.returns-then-bit
returns-then-bit c = λ k lt. lane_ones 64 k lt ∙ sym c.if-bit.true
