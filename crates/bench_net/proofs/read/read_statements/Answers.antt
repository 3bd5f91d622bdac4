use Rattle.std.proofs.Common.{◌≡◌, ◌∙◌, ◌+◌, ◌==◌, map, rules, arith, ap, suc, length}
use Rattle.std.proofs.lemmas.{List.{map_push, append-nil}, Grind.common_steps}
use Rattle.std.proofs.lemmas.Iterator.Consumers.{YieldsList-from_first, YieldsList-turn}
use Rattle.std.proofs.lemmas.Iterator.Consumers.{YieldsList-end, YieldsList-so_far}
use Rattle.std.proofs.lemmas.Result.{err_from_is_err_and}
use Rattle.text_lines.specs.{Lines.lines, Reading.lines_left}
use Rattle.bench_net.specs.{reader.Entries.entry_of, declared.BenchFault.TheVariants.Syntax}
use Rattle.bench_net.proofs.NumberedLines.{given_more, refused_line, may_be}
use Rattle.bench_net.proofs.read.read_statements.Goals as goal

pub overflow_add-number : goal.overflow_add-number
overflow_add-number c =
    let road = YieldsList-from_first (λ x. x.now) lines_left (lines c.args.text.now)
    (ap lines_left c.into_iter-line-iterator.ensures.into_iter_gives
    ∙ c.new-line-items.ensures.lines) in
    let turn = YieldsList-turn road c.loop-line.yielded _ c.loop-line.yielded_by _ c.next.new.self
    c.in-Some.line c.in-Some.is c.next.ensures.steps in
    let few = rw c.new-line-items.ensures.lines at c.new-line-items.ensures.few in
    search (rules, turn.0, few)

pub loop-line-preserved : goal.loop-line-preserved
loop-line-preserved c =
    let read = rw c.in_default.is at c.in_ok-statement.ensures in
    let more = given_more c.loop-line.yielded c.in-Some.line (c.loop-line.number + 1)
    (omega (arith, c.loop-line.invariant.0)) c.loop-line.invariant.1 read in
    (grind (arith, common_steps), rw append-nil at more)

pub loop-line-preserved-in-Continue-branch-4 : goal.loop-line-preserved-in-Continue-branch-4
loop-line-preserved-in-Continue-branch-4 c =
    let read = rw c.in-Some-2.is at c.in_ok-statement.ensures in
    let more = given_more c.loop-line.yielded c.in-Some.line (c.loop-line.number + 1)
    (omega (arith, c.loop-line.invariant.0)) c.loop-line.invariant.1 read in
    let items = c.in_ok-push.ensures.items in
    (grind (arith, common_steps), rw (items, map_push entry_of) more)

pub returns-in_err-statement-clause-refused : goal.returns-in_err-statement-clause-refused
returns-in_err-statement-clause-refused c =
    let road = YieldsList-from_first (λ x. x.now) lines_left (lines c.args.text.now)
    (ap lines_left c.into_iter-line-iterator.ensures.into_iter_gives
    ∙ c.new-line-items.ensures.lines) in
    let turn = YieldsList-turn road c.loop-line.yielded _ c.loop-line.yielded_by _ c.next.new.self
    c.in-Some.line c.in-Some.is c.next.ensures.steps in
    let front = YieldsList-so_far road c.loop-line.yielded _ c.loop-line.yielded_by in
    let back = c.from_residual-in_err-statement.result in
    let p = err_from_is_err_and back c.from_residual-in_err-statement.ensures.1 in
    let number : c.args.before ≡ 0 → c.loop-line.number + 1 ≡ suc (length c.loop-line.yielded) =
    λ top. omega (arith, top, c.loop-line.invariant.0) in
    λ top. rw (p.1, p.2) (may_be c.args.text.now (Syntax (c.loop-line.number + 1)) _ _
    c.in_err-statement.ensures
    (λ none. (
      c.requires.bytes,
      rw (number top)
          (refused_line c.loop-line.yielded c.in-Some.line c.args.text.now front turn.0 turn.1
          c.loop-line.invariant.1 none),
    )))

pub returns-clause-ok : goal.returns-clause-ok
returns-clause-ok c =
    let road = YieldsList-from_first (λ x. x.now) lines_left (lines c.args.text.now)
    (ap lines_left c.into_iter-line-iterator.ensures.into_iter_gives
    ∙ c.new-line-items.ensures.lines) in
    let t = YieldsList-end road c.loop-line.yielded _ c.loop-line.yielded_by _ c.next.new.self
    c.in-None.is c.next.ensures.steps in
    rw t.0 at c.loop-line.invariant.1
