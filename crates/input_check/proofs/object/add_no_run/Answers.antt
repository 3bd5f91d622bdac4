use Rattle.input_check.proofs.object.add_no_run.Goals as goal

pub returns : goal.returns
returns c = rw (
  c.missing.ensures.name,
  c.missing.ensures.number,
  c.missing-2.ensures.name,
  c.missing-2.ensures.number,
  c.missing-3.ensures.name,
  c.missing-3.ensures.number,
  c.missing-4.ensures.name,
  c.missing-4.ensures.number,
) at c.add_members.ensures
