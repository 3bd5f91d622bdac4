use Rattle.std.proofs.Common.{◌∙◌, ◌==◌, rules, sym}
use Rattle.std.proofs.lemmas.Iterator.Splits.{YieldsList-from_slice_split}
use Rattle.std.proofs.lemmas.Iterator.Consumers.{YieldsList-turn, YieldsList-end, YieldsList-so_far}
use borrow.Author.Tests.{tests}
use Rattle.test_columns.proofs.FirstLine.{given_more, is_first, is_none}
use Rattle.test_columns.proofs.line.first_line.Goals as goal

pub returns-then-has_more_than_blanks : goal.returns-then-has_more_than_blanks
returns-then-has_more_than_blanks c =
    let road = YieldsList-from_slice_split _ (λ b. b == 10) c.args.text.now (cc) (cc) (cc)
    (λ x r q k. search (rules, tests)) in
    let turn = YieldsList-turn road c.loop-line.yielded _ c.loop-line.yielded_by _ _
    c.in-Some.line c.in-Some.is c.next.ensures.steps in
    let front = YieldsList-so_far road c.loop-line.yielded _ c.loop-line.yielded_by in
    let is = c.without_carriage_return-bytes.ensures in
    is_first c.args.text.now c.loop-line.yielded c.in-Some.line
    c.without_carriage_return-bytes.result.now c.loop-line.number c.loop-line.invariant.0 front
    turn.0 turn.1 is c.loop-line.invariant.1
    (sym c.has_more_than_blanks.ensures ∙ c.if-has_more_than_blanks.true)

pub loop-line-preserved : goal.loop-line-preserved
loop-line-preserved c =
    given_more c.loop-line.yielded c.in-Some.line c.without_carriage_return-bytes.result.now
    c.loop-line.number c.loop-line.invariant.0 c.without_carriage_return-bytes.ensures
    c.loop-line.invariant.1 (sym c.has_more_than_blanks.ensures ∙ c.if-has_more_than_blanks.false)

pub returns : goal.returns
returns c =
    let road = YieldsList-from_slice_split _ (λ b. b == 10) c.args.text.now (cc) (cc) (cc)
    (λ x r q k. search (rules, tests)) in
    let t = YieldsList-end road c.loop-line.yielded _ c.loop-line.yielded_by _ _ c.in-None.is
    c.next.ensures.steps in
    is_none c.args.text.now c.loop-line.yielded t.0 c.loop-line.invariant.1
