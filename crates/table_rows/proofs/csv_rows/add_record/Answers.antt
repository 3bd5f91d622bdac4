use Rattle.std.proofs.Common.{◌≡◌, ◌<◌, ◌∙◌, ◌++◌, ◌==◌, [], ap, arith, false, get_or, length, map}
use Rattle.std.proofs.{Common.{sym, take_all, true}, lemmas.Bool.{eq-eqb, ne_eqb}}
use Rattle.std.proofs.lemmas.List.{get_or-map, length-map}
use Rattle.csv.{specs.Writing.{default_writer, row_body}, proofs.WriteFacts.row-step}
use Rattle.table_rows.specs.declared.cell.Cell.TheVariants as cell
use Rattle.table_rows.{specs.Cells.{Empty, cell_in, csv_cell}, proofs.Texts.added_in_turn}
use Rattle.table_rows.proofs.Records.{row_closed}
use Rattle.table_rows.proofs.csv_rows.add_record.Goals as goal

pub loop-place-preserved : goal.loop-place-preserved
loop-place-preserved c =
    let cells = c.args.cells.now in
    let fields = map csv_cell (map cell_in cells) in
    let i = c.loop-place.place in
    let l : i < length cells = omega arith in
    let some = length-map cells cell_in in
    let all = length-map (map cell_in cells) csv_cell in
    let own : get_or fields i [] ≡ csv_cell (cell_in (get_or cells i cell.Empty)) =
    get_or-map csv_cell (map cell_in cells) i Empty [] (omega (arith, some, l))
    ∙ ap csv_cell (get_or-map cell_in cells i cell.Empty Empty l) in
    let step = row-step default_writer fields i (omega (arith, some, all, l)) in
    let field = rw (← own) at c.in_ok-add_field.ensures in
    added_in_turn _ _ _ _ _ _ _ c.loop-place.invariant c.in_ok-add_separator.ensures field
    ∙ ap (λ t. c.args.text.now.items ++ t) (sym step)

pub returns-then-len-before : goal.returns-then-len-before
returns-then-len-before c =
    let fields = map csv_cell (map cell_in c.args.cells.now) in
    let text = c.loop-place.text in
    let some = length-map c.args.cells.now cell_in in
    let many = length-map (map cell_in c.args.cells.now) csv_cell in
    let all = take_all c.loop-place.place fields
    (omega (arith, some, many, c.loop-place-test.false)) in
    let same : (length text.items == length c.args.text.now.items) ≡ true = eq-eqb _ _ (omega (
      arith,
      c.if-len-before.true,
      c.len.ensures,
      c.len-before.ensures,
      text.ok.0,
      c.args.text.now.ok.0,
    )) in
    let closed = row_closed _ text.items fields
    (c.loop-place.invariant ∙ ap (λ fs. c.args.text.now.items ++ row_body default_writer fs) all) in
    rw (← rw same at closed) c.add_pieces.ensures

pub returns : goal.returns
returns c =
    let fields = map csv_cell (map cell_in c.args.cells.now) in
    let text = c.loop-place.text in
    let some = length-map c.args.cells.now cell_in in
    let many = length-map (map cell_in c.args.cells.now) csv_cell in
    let all = take_all c.loop-place.place fields
    (omega (arith, some, many, c.loop-place-test.false)) in
    let other : (length text.items == length c.args.text.now.items) ≡ false =
    ne_eqb _ _ (λ e. c.if-len-before.false (omega (
      arith,
      e,
      c.len.ensures,
      c.len-before.ensures,
      text.ok.0,
      c.args.text.now.ok.0,
    ))) in
    let closed = row_closed _ text.items fields
    (c.loop-place.invariant ∙ ap (λ fs. c.args.text.now.items ++ row_body default_writer fs) all) in
    c.in_ok-push.ensures.items ∙ rw other at closed
