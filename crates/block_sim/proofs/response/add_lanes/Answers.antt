use Rattle.std.proofs.{Common.{◌∙◌, ap, arith, length, map}, lemmas.List.length-append}
use Rattle.std.proofs.lemmas.List.FromFn.{length-map-range_with_len}
use Rattle.patterns.specs.Least.{below}
use Rattle.block_sim.{specs.Responses.lane_row, proofs.ResponseRows.lane_more}
use Rattle.block_sim.proofs.response.add_lanes.Goals as goal

pub add_row-requires-clause-room : goal.add_row-requires-clause-room
add_row-requires-clause-room c =
    let lanes = lane_row c.args.observed.now c.args.words.now in
    let before = ap length c.loop-lane.invariant.rows in
    let long = length-append c.args.rows.now.tests (map lanes (below c.loop-lane.lane)) in
    let more = length-map-range_with_len lanes 0 c.loop-lane.lane in
    omega (arith, before, long, more, c.requires.room, c.loop-lane-test.true)

pub loop-lane-preserved : goal.loop-lane-preserved
loop-lane-preserved c = record {
  rows = lane_more c.args.rows.now.tests c.loop-lane.rows.tests c.add_row.new.rows.tests
      c.args.observed.now c.args.words.now c.read_lane.new.row c.loop-lane.lane
      c.loop-lane.invariant.rows (ap (λ t. t.tests) c.in_ok-add_row.ensures.added)
      c.read_lane.ensures;
  width = c.in_ok-add_row.ensures.width ∙ c.loop-lane.invariant.width;
}
