use Rattle.fault_model.proofs.PairClasses.{pairs_have_class, pairs_have_classes}
use Rattle.fault_model.proofs.laws.pairs.Goals as goal

pub returns-clause-class : goal.returns-clause-class
returns-clause-class c = pairs_have_class

pub returns-clause-classes : goal.returns-clause-classes
returns-clause-classes c = pairs_have_classes
