use Rattle.block_sim.specs.Parts.{HasRoom}
use Rattle.command_line_tests.proofs.examples.generator.news.Given as goal

-- the workspace fits the job
abbrev pub invariant-loop-class : goal.invariant-loop-class
invariant-loop-class l = HasRoom l.workspace l.job
