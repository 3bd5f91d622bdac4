use Rattle.fault_model.proofs.ClassLaws.{classes_show_same, classes_detect_same}
use Rattle.fault_model.proofs.ClassLaws.{representatives_detect_same}
use Rattle.fault_model.proofs.LookBack.{classes_detected_same, detected_as_representative}
use Rattle.fault_model.proofs.laws.equivalence.Goals as goal

pub returns-clause-show_same : goal.returns-clause-show_same
returns-clause-show_same c = classes_show_same

pub returns-clause-detected_by_same : goal.returns-clause-detected_by_same
returns-clause-detected_by_same c = classes_detect_same

pub returns-clause-as_representative : goal.returns-clause-as_representative
returns-clause-as_representative c = representatives_detect_same

pub returns-clause-detected_at_same : goal.returns-clause-detected_at_same
returns-clause-detected_at_same c = classes_detected_same

pub returns-clause-detected_as_representative : goal.returns-clause-detected_as_representative
returns-clause-detected_as_representative c = detected_as_representative
