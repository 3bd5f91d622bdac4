use Rattle.wide_words.proofs.Halves.{low_lane}
use Rattle.wide_words.proofs.copies.low_half.Goals as goal

pub returns : goal.returns
returns c = λ k lt. low_lane c.args.word c.from.result k c.from.ensures lt
