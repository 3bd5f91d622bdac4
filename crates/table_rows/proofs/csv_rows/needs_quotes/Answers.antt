use Rattle.std.proofs.Common.{◌∙◌, ap, arith, sym, take_all}
use Rattle.csv.specs.Writing.{default_writer, needs_byte, needs_quotes}
use Rattle.csv.proofs.WriteFacts.{any-hit, any-step}
use Rattle.table_rows.proofs.csv_rows.needs_quotes.Goals as goal

pub loop-byte-preserved : goal.loop-byte-preserved
loop-byte-preserved c =
    any-step (needs_byte default_writer) c.args.field.now c.loop-byte.byte-index (omega arith)
    c.loop-byte.invariant (sym c.is_special.ensures ∙ c.if-is_special.false)

pub returns-then-is_special : goal.returns-then-is_special
returns-then-is_special c =
    sym (any-hit (needs_byte default_writer) c.args.field.now c.loop-byte.byte-index (omega arith)
    (sym c.is_special.ensures ∙ c.if-is_special.true))

pub returns : goal.returns
returns c = sym (ap (needs_quotes default_writer)
    (sym (take_all c.loop-byte.byte-index c.args.field.now c.loop-byte-test.false))
    ∙ c.loop-byte.invariant)
