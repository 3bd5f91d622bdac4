use Rattle.report.proofs.text.simulate_text_in.Goals as goal

pub returns-clause-written : goal.returns-clause-written
returns-clause-written g c = rw (c.of_list-contents.ensures) at c.simulate_text_with.ensures.written
