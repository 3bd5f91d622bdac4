use Rattle.fault_model.proofs.ClassLaws.{detection_is_of_any_solution}
use Rattle.fault_model.proofs.laws.detection.Goals as goal

pub returns : goal.returns
returns c = detection_is_of_any_solution
