use Rattle.std.proofs.Common.{◌≡◌, ◌∷◌, ◌+◌, ◌-◌, ◌<◌, length, take, drop, sym, ap, ◌∙◌, arith}
use Rattle.std.proofs.{Common.rules, lemmas.List.take_rest}
use Rattle.std.specs.Str.Lines.{strip_carriage_return}
use Rattle.text_lines.specs.{Lines.lines, Reading.lines_left}
use Rattle.text_lines.proofs.FirstLine.{lines_first, lines_last}
use Rattle.text_lines.proofs.lines.FileLinesIterator.next.Goals as goal

pub returns-in_default-clause-steps : goal.returns-in_default-clause-steps
returns-in_default-clause-steps c =
    let left : lines_left c.args.self.now ≡ lines c.in_ok-text.text.now = search rules in
    rw (left, c.without_carriage_return.ensures)
    (lines_last c.in_ok-text.text.now (rw c.in_default.is at c.memchr.ensures))

-- the lines that are left, if a line feed ends the first one
first : (c : goal.After-without_carriage_return-2)
    → lines_left c.args.self.now ≡ strip_carriage_return (take c.in-Some.at c.in_ok-text.text.now)
    ∷ lines (drop (c.in-Some.at + 1) c.in_ok-text.text.now)
first c =
    let left : lines_left c.args.self.now ≡ lines c.in_ok-text.text.now = search rules in
    let found = rw c.in-Some.is at c.memchr.ensures in
    left ∙ lines_first c.in_ok-text.text.now c.in-Some.at (omega (arith, found.0.high)) found

pub returns-clause-steps : goal.returns-clause-steps
returns-clause-steps c =
    rw (c.without_carriage_return-2.ensures, take_rest c.in_ok-text.text.now (c.in-Some.at + 1))
    (first c)

pub returns-clause-goes : goal.returns-clause-goes
returns-clause-goes c =
    let rest = take_rest c.in_ok-text.text.now (c.in-Some.at + 1) in
    let shorter = ap length (first c) in
    search rules
