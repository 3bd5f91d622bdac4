use Rattle.fault_model.specs.Known.{HaveKinds}
use Rattle.fault_model.proofs.classes.kinds_of.Given as goal

abbrev pub invariant-loop-signal : goal.invariant-loop-signal
invariant-loop-signal l = HaveKinds l.circuit l.signal l.kinds.items
