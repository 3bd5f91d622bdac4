use Rattle.block_coverage.proofs.InBlock.{inner}
use Rattle.block_coverage.proofs.laws.inner_block.Goals as goal

pub returns : goal.returns
returns c = inner
