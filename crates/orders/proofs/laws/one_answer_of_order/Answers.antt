use Rattle.orders.proofs.OneAnswer.{moves_cases, moves_not_refused, moves_same, order_refusal_same}
use Rattle.orders.proofs.laws.one_answer_of_order.Goals as goal

pub returns-clause-some : goal.returns-clause-some
returns-clause-some c = moves_cases

pub returns-clause-not_both : goal.returns-clause-not_both
returns-clause-not_both c = moves_not_refused

pub returns-clause-one_list : goal.returns-clause-one_list
returns-clause-one_list c = moves_same

pub returns-clause-one_fault : goal.returns-clause-one_fault
returns-clause-one_fault c = order_refusal_same
