use Rattle.patterns.proofs.OneAnswer.{has_tests_list}
use Rattle.patterns.proofs.laws.accepted_in_range.Goals as goal

pub returns : goal.returns
returns c = has_tests_list
