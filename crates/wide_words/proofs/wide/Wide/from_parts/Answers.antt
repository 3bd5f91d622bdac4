use Rattle.std.proofs.Common.{rules}
use Rattle.wide_words.proofs.Parts.{lane_of}
use Rattle.wide_words.proofs.wide.Wide.from_parts.Goals as goal

pub returns : goal.returns
returns c = λ k lt. lane_of c.args.parts (search rules) k
