use Rattle.std.proofs.{Common.{◌+◌, ◌∙◌}, lemmas.List.take_rest}
use Rattle.text_lines.proofs.BitRow.{first_held, after_held}
use Rattle.text_lines.proofs.rows.first_line.Goals as goal

pub returns-then-begins_with_bits-clause-held : goal.returns-then-begins_with_bits-clause-held
returns-then-begins_with_bits-clause-held c =
    let begins = c.begins_with_bits.ensures c.if-begins_with_bits.true in
    first_held c.args.text.now c.args.likely begins.0 begins.1 begins.2

pub returns-then-begins_with_bits-clause-rest : goal.returns-then-begins_with_bits-clause-rest
returns-then-begins_with_bits-clause-rest c =
    let begins = c.begins_with_bits.ensures c.if-begins_with_bits.true in
    take_rest c.args.text.now (c.args.likely + 1)
    ∙ after_held c.args.text.now c.args.likely begins.0 begins.1 begins.2
