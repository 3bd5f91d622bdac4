use Rattle.std.{proofs.Common.{◌∙◌, ap}, specs.Prelude.slice_index_or}
use Rattle.wide_words.specs.{Lanes.{lane_in, slot_of}, Wide.number}
use Rattle.flat_circuit.{specs.Words.lane, proofs.Public.{lane_xor, unlike}}
use Rattle.region_sim.proofs.PackGates.{turned_bit}
use Rattle.region_sim.proofs.pack.pin_lanes.Goals as goal

pub returns : goal.returns
returns g c = λ k lt.
    let layout = g.C.Copies.layout in
    let good = g.C.Copies.rows c.args.copies in
    let bit = lane (slice_index_or (good (slot_of layout k)) c.args.pin 0) (lane_in layout k) in
    ap (λ n. lane n k) c.xor-2.ensures
    ∙ (lane_xor (number c.xor.result) (number c.lanes_of.result) k
    ∙ (ap (λ b. unlike b (lane (number c.lanes_of.result) k)) (ap (λ n. lane n k) c.xor.ensures
    ∙ (lane_xor (number c.of.result) (number c.in_each_wide_lane.result) k
    ∙ (ap (λ b. unlike b (lane (number c.in_each_wide_lane.result) k)) (c.of.ensures k lt)
    ∙ ap (unlike bit) (c.in_each_wide_lane.ensures k lt))))
    ∙ (ap (λ n. unlike (unlike bit c.args.turn) (lane n k)) c.lanes_of.ensures
    ∙ turned_bit bit c.args.turn (lane (slice_index_or c.args.deltas.now c.args.pin 0) k))))
