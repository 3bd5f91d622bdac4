use Rattle.block_coverage.proofs.InBlock.{block_from, in_block}
use Rattle.block_coverage.proofs.laws.block_holds.Goals as goal

pub returns : goal.returns
returns c = λ separator name block. (block_from separator name block, in_block separator name block)
