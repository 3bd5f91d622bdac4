use Rattle.report.proofs.ClassFirsts.{first_of_class}
use Rattle.report.proofs.laws.class_firsts_are.Goals as goal

pub returns : goal.returns
returns c = first_of_class
