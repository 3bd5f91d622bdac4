use Rattle.tables.proofs.summary.add_found.Goals as goal

pub returns : goal.returns
returns c = rw (
  c.from.ensures,
  c.from-2.ensures,
  c.from-3.ensures,
  c.saturating_sub.ensures,
) at c.add_object.ensures
