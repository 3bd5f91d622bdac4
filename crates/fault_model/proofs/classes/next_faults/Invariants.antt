use Rattle.fault_model.specs.Known.{HaveNexts}
use Rattle.fault_model.proofs.classes.next_faults.Given as goal

abbrev pub invariant-loop-fault : goal.invariant-loop-fault
invariant-loop-fault l = HaveNexts l.list.model l.circuit l.fault l.nexts.items
