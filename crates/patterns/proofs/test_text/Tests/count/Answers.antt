use Rattle.std.proofs.Common.{sym}
use Rattle.patterns.proofs.TestWords.{seen-count}
use Rattle.patterns.proofs.test_text.Tests.count.Goals as goal

pub returns : goal.returns
returns c = sym (seen-count c.self.inside.width c.self.inside.count c.self.inside.words.items
    c.args.self.now c.self.view_is)
