use Rattle.input_check.proofs.object.add_taken.Goals as goal

pub returns : goal.returns
returns c = rw (
  c.numbered.ensures.name,
  c.numbered.ensures.number,
  c.numbered-2.ensures.name,
  c.numbered-2.ensures.number,
  c.numbered-3.ensures.name,
  c.numbered-3.ensures.number,
  c.numbered-4.ensures.name,
  c.numbered-4.ensures.number,
  c.from.ensures,
  c.from-2.ensures,
  c.megabytes.ensures,
) at c.add_members.ensures
