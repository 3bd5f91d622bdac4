use Rattle.wide_words.proofs.Parts.{joined_none, none_joined}
use Rattle.wide_words.proofs.wide.Wide.is_none.Goals as goal

pub returns : goal.returns
returns c = (joined_none c.args.self.parts, none_joined c.args.self.parts)
