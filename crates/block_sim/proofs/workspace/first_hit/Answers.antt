use Rattle.std.proofs.Common.{refl, arith, [], ◌∷◌}
use Rattle.block_sim.specs.{declared.propagation.Followed.Followed, Propagation.HaveHits}
use Rattle.block_sim.proofs.DetectingTests.{outcome_of_lanes}
use Rattle.flat_circuit.proofs.Public.{lane_ones}
use Rattle.block_sim.proofs.workspace.first_hit.Goals as goal

pub returns-clause-outcome : goal.returns-clause-outcome
returns-clause-outcome c =
    let job = c.args.job.now in
    let detection = c.detecting_lanes-lanes.ensures.detection in
    let all : Followed = record {
      class = c.args.class;
      place = c.args.class;
      lanes = 340282366920938463463374607431768211455;
    } in (
      detection.0,
      detection.1,
      outcome_of_lanes job.circuit job.tests.tests c.args.block detection.0
          (HaveHits (all ∷ []) c.detecting_lanes-lanes.result) c.detecting_lanes-lanes.result
          c.block_word.result detection.2 c.block_word.ensures
          (λ k lt settled. let j = settled all (0, omega arith, refl) (lane_ones 128 k lt) in
          (j.0, j.1, j.3)) c.least_lane.result c.least_lane.ensures,
    )
