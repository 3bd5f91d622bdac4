use Rattle.wide_words.proofs.copies.FourCopies.put.Goals as goal

pub returns-clause-own : goal.returns-clause-own
returns-clause-own c = c.put_group.ensures.own

pub returns-clause-others : goal.returns-clause-others
returns-clause-others c = c.put_group.ensures.others
