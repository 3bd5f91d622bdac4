use Rattle.block_sim.specs.declared.propagation.Extent.TheVariants.{WholeBlock}
use Rattle.block_sim.{specs.Propagation.IsSettled, proofs.DetectingTests.outcome_of_lanes}
use Rattle.block_sim.proofs.workspace.simulate.Goals as goal

pub returns-clause-outcome : goal.returns-clause-outcome
returns-clause-outcome c =
    let job = c.args.job.now in
    let detection = c.detecting_lanes-lanes.ensures.detection in (
      detection.0,
      detection.1,
      outcome_of_lanes job.circuit job.tests.tests c.args.block detection.0
          (IsSettled WholeBlock c.detecting_lanes-lanes.result) c.detecting_lanes-lanes.result
          c.block_word.result detection.2
          c.block_word.ensures (λ k lt never. absurd never) c.least_lane.result
          c.least_lane.ensures,
    )
