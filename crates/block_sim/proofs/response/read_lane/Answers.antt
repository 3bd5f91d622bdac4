use Rattle.std.proofs.Common.{◌∙◌, arith}
use Rattle.block_sim.proofs.ResponseRows.{lane_row_is}
use Rattle.block_sim.proofs.response.read_lane.Goals as goal

pub returns : goal.returns
returns c = lane_row_is c.args.observed.now c.args.words.now c.loop-place.row c.args.lane
    (c.loop-place.auto.row ∙ c.requires.row)
    (λ i d lt. c.loop-place.invariant i d (omega (arith, lt, c.loop-place-test.false)))
