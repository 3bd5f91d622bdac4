use Rattle.fault_model.proofs.ClassLaws.{has_solutions, has_one_solution}
use Rattle.fault_model.proofs.laws.solutions.Goals as goal

pub returns-clause-exist : goal.returns-clause-exist
returns-clause-exist c = has_solutions

pub returns-clause-are_one : goal.returns-clause-are_one
returns-clause-are_one c = has_one_solution
