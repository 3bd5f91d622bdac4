use Rattle.fault_model.proofs.RepresentativeNumbers.{Numbered}
use Rattle.fault_model.proofs.classes.number_ends.Given as goal

abbrev pub invariant-loop-fault : goal.invariant-loop-fault
invariant-loop-fault l =
    Numbered l.list.model l.circuit l.fault l.class_of.items l.representative.items
