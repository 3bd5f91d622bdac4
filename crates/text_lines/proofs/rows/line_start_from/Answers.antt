use Rattle.std.proofs.{Common.{◌-◌, length, arith, rules, take, drop}, lemmas.List.take_rest}
use Rattle.text_lines.proofs.CutRows.{IsLineStartFrom-found, IsLineStartFrom-end}
use Rattle.text_lines.proofs.rows.line_start_from.Goals as goal

pub returns-in-Some : goal.returns-in-Some
returns-in-Some c =
    let text = c.args.text.now in
    let place = c.args.place in
    let rest = take (length text - (place - 1)) (drop (place - 1) text) in
    IsLineStartFrom-found text rest place (omega arith) c.requires (take_rest text (place - 1))
    c.in-Some.at (search rules) (search rules) (search rules)

pub returns-in-None : goal.returns-in-None
returns-in-None c =
    let text = c.args.text.now in
    let place = c.args.place in
    let rest = take (length text - (place - 1)) (drop (place - 1) text) in
    IsLineStartFrom-end text rest place (omega arith) c.requires (take_rest text (place - 1))
    (search rules)
