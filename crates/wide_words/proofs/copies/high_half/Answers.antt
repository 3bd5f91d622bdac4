use Rattle.wide_words.proofs.Halves.{high_lane}
use Rattle.wide_words.proofs.copies.high_half.Goals as goal

pub returns : goal.returns
returns c = λ k lt. high_lane c.args.word k
