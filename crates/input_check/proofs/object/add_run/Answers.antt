use Rattle.input_check.proofs.object.add_run.Goals as goal

pub returns-in-None : goal.returns-in-None
returns-in-None c = rw (c.in-None.is) c.add_no_run.ensures
