use Rattle.wide_words.proofs.Parts.{lane_at}
use Rattle.wide_words.proofs.wide.Wide.to_parts.Goals as goal

pub returns : goal.returns
returns c = λ p k lt. lane_at c.args.self.parts c.args.self.fits p k lt
