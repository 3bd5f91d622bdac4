use Rattle.patterns.proofs.OneAnswer.{tests_cases, tests_not_refused, tests_same, test_refusal_same}
use Rattle.patterns.proofs.laws.one_answer_of_tests.Goals as goal

pub returns-clause-some : goal.returns-clause-some
returns-clause-some c = tests_cases

pub returns-clause-not_both : goal.returns-clause-not_both
returns-clause-not_both c = tests_not_refused

pub returns-clause-one_list : goal.returns-clause-one_list
returns-clause-one_list c = tests_same

pub returns-clause-one_fault : goal.returns-clause-one_fault
returns-clause-one_fault c = test_refusal_same
