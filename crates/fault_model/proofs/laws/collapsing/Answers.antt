use Rattle.fault_model.proofs.NextFaultChains.{has_representatives, has_classes}
use Rattle.fault_model.proofs.laws.collapsing.Goals as goal

pub returns-clause-representatives : goal.returns-clause-representatives
returns-clause-representatives c = has_representatives

pub returns-clause-classes : goal.returns-clause-classes
returns-clause-classes c = has_classes
