use Rattle.std.proofs.{Common.{◌+◌, ◌++◌, take, drop, sym, ap, ◌∙◌}, lemmas.List.take_rest}
use Rattle.text_lines.{specs.Rows.rows_from, proofs.CutRows.rows_from-cut}
use Rattle.text_lines.proofs.rows.Rows.from_place.Goals as goal

pub returns : goal.returns
returns c =
    let text = c.args.text.now in
    let place = c.args.place in
    rows_from-cut 1 text place c.requires
    ∙ ap (λ n. rows_from 1 (take place text) ++ rows_from (1 + n) (drop place text))
    (sym c.count_line_feeds.ensures.count)
    ∙ ap (λ l. rows_from 1 (take place text) ++ rows_from (1 + c.count_line_feeds.result) l)
    (sym (take_rest text place))
