use Rattle.std.proofs.{Common.arith, lemmas.Bool.Decides.nat_tests}
use Rattle.patterns.proofs.TestWords.{seen-count}
use Rattle.patterns.proofs.test_text.Tests.takes.Goals as goal

pub returns-then-count-le-MAX_TESTS : goal.returns-then-count-le-MAX_TESTS
returns-then-count-le-MAX_TESTS c =
    let own = c.self.inside in
    let other = c.more.inside in
    let count = seen-count own.width own.count own.words.items c.args.self.now c.self.view_is in
    let more = seen-count other.width other.count other.words.items c.args.more.now c.more.view_is
    in (λ h. (grind (arith, nat_tests), omega (arith, count, more)), λ h. grind (arith, nat_tests))

pub returns-else-count-le-MAX_TESTS : goal.returns-else-count-le-MAX_TESTS
returns-else-count-le-MAX_TESTS c =
    let own = c.self.inside in
    let other = c.more.inside in
    let count = seen-count own.width own.count own.words.items c.args.self.now c.self.view_is in
    let more = seen-count other.width other.count other.words.items c.args.more.now c.more.view_is
    in (λ h. absurd (grind (arith, nat_tests)), λ h. absurd (omega (arith, h.1, count, more)))
