use Rattle.block_sim.specs.declared.propagation.Extent.TheVariants.{WholeBlock}
use Rattle.block_sim.{specs.Propagation.IsSettled, proofs.DetectingTests.decided_lanes}
use Rattle.block_sim.proofs.workspace.detecting.Goals as goal

pub returns-clause-lanes : goal.returns-clause-lanes
returns-clause-lanes c =
    let job = c.args.job.now in
    let detection = c.detecting_lanes-word.ensures.detection in (
      detection.0,
      detection.1,
      decided_lanes job.circuit job.tests.tests c.args.block detection.0
          (IsSettled WholeBlock c.detecting_lanes-word.result) c.detecting_lanes-word.result
          c.block_word.result detection.2 c.block_word.ensures (λ k never. never),
    )
