use Rattle.std.proofs.Common.{rules}
use Rattle.patterns.proofs.TestWords.{seen-count}
use Rattle.patterns.proofs.test_text.Tests.blocks.Goals as goal

pub returns : goal.returns
returns c = rw (seen-count c.self.inside.width c.self.inside.count c.self.inside.words.items
    c.args.self.now c.self.view_is) (search rules)
