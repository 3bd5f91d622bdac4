use Rattle.std.proofs.{Common.{◌≡◌, ◌+◌, ◌++◌, ap, sym, subst, ◌∙◌, arith}, lemmas.List.map-append}
use Rattle.patterns.{specs.Words.{AreWords, tests_of}, proofs.TestWords.{seen-count, word_lists}}
use Rattle.patterns.proofs.JoinedTests.{AreWords-joined, tests_of-joined}
use Rattle.patterns.proofs.test_text.Tests.append.Goals as goal

pub invariant_of-self-2 : goal.invariant_of-self-2
invariant_of-self-2 c =
    let own = c.self.inside in
    let other = c.more.inside in
    let words = word_lists own.words.items in
    let more = word_lists other.words.items in
    let count = seen-count own.width own.count own.words.items c.args.self.now c.self.view_is in
    let others = seen-count other.width other.count other.words.items c.args.more c.more.view_is in
    let width : other.width ≡ own.width =
    ap (λ t. t.width) c.more.view_is ∙ c.requires.width ∙ sym (ap (λ t. t.width) c.self.view_is) in
    let are : AreWords own.width other.count more =
    subst (λ w. AreWords w other.count more) width c.more.invariant in
    let joined : word_lists c.append.new.self.items ≡ words ++ more =
    ap word_lists c.in_ok-append.ensures.items
    ∙ map-append (λ block. block.items) own.words.items other.words.items in
    subst (AreWords own.width (own.count + other.count)) (sym joined)
    (AreWords-joined own.width own.count other.count words more (omega (arith, count))
    c.self.invariant are (omega (arith, count, others)))

pub returns-clause-appended : goal.returns-clause-appended
returns-clause-appended c =
    let own = c.self.inside in
    let other = c.more.inside in
    let words = word_lists own.words.items in
    let more = word_lists other.words.items in
    let count = seen-count own.width own.count own.words.items c.args.self.now c.self.view_is in
    let width : other.width ≡ own.width =
    ap (λ t. t.width) c.more.view_is ∙ c.requires.width ∙ sym (ap (λ t. t.width) c.self.view_is) in
    let are : AreWords own.width other.count more =
    subst (λ w. AreWords w other.count more) width c.more.invariant in
    let joined : word_lists c.append.new.self.items ≡ words ++ more =
    ap word_lists c.in_ok-append.ensures.items
    ∙ map-append (λ block. block.items) own.words.items other.words.items in
    let tests : tests_of own.width (own.count + other.count) (word_lists c.append.new.self.items)
    ≡ c.args.self.now.tests ++ c.args.more.tests =
    ap (tests_of own.width (own.count + other.count)) joined
    ∙ tests_of-joined own.width own.count other.count words more (omega (arith, count))
    c.self.invariant are
    ∙ ap (λ t. t ++ tests_of own.width other.count more) (ap (λ t. t.tests) c.self.view_is)
    ∙ ap (λ t. c.args.self.now.tests ++ t)
    (ap (λ w. tests_of w other.count more) (sym width) ∙ ap (λ t. t.tests) c.more.view_is) in
    ap (λ t. record { width = own.width; tests = t }) tests
    ∙ ap (λ w. record { width = w; tests = c.args.self.now.tests ++ c.args.more.tests })
    (ap (λ t. t.width) c.self.view_is)
