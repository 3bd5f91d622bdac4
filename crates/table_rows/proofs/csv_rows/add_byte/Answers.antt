use Rattle.std.proofs.Common.{refl}
use Rattle.csv.{specs.Writing.default_writer, proofs.WriteFacts.{escaped-double, escaped-other}}
use Rattle.table_rows.proofs.csv_rows.add_byte.Goals as goal

pub returns-then-byte-eq34 : goal.returns-then-byte-eq34
returns-then-byte-eq34 c =
    rw (escaped-double default_writer c.args.byte c.if-byte-eq34.true refl, c.if-byte-eq34.true)
    c.add_pieces.ensures

pub returns : goal.returns
returns c =
    rw (escaped-other default_writer c.args.byte c.if-byte-eq34.false) c.in_ok-push.ensures.items
