use Rattle.tables.proofs.summary.add_reasons.Goals as goal

pub returns : goal.returns
returns c = rw (c.in-Some.is) c.add_object.ensures
