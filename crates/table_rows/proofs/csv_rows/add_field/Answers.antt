use Rattle.std.proofs.Common.{append-nil, sym}
use Rattle.table_rows.proofs.Records.{plain_number, plain_percent}
use Rattle.table_rows.proofs.csv_rows.add_field.Goals as goal

pub returns-in-Empty : goal.returns-in-Empty
returns-in-Empty c = rw (c.in-Empty.is) (sym (append-nil c.args.text.now.items))

pub returns-in-Number : goal.returns-in-Number
returns-in-Number c = rw (c.in-Number.is, plain_number c.in-Number.number) c.add_number.ensures

pub returns-in-Words : goal.returns-in-Words
returns-in-Words c = rw (c.in-Words.is, ← c.as_bytes.ensures.value) c.add_words.ensures

pub returns-in-Percent : goal.returns-in-Percent
returns-in-Percent c = rw (
  c.in-Percent.is,
  plain_percent c.in-Percent.part c.in-Percent.whole,
) c.add_percent.ensures
