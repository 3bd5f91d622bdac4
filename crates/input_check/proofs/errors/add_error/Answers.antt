use Rattle.input_check.proofs.errors.add_error.Goals as goal

pub returns : goal.returns
returns c = rw (
  c.as_str.ensures.value,
  c.in_ok-file.ensures,
  c.number_or_null.ensures,
  c.number_or_null-2.ensures,
  c.as_str-2.ensures.value,
  c.in_ok-message.ensures,
  c.as_str-3.ensures.value,
  c.in_ok-hint.ensures,
) at c.add_pieces.ensures
