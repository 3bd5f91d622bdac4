use Rattle.fault_model.proofs.StemClasses.{FollowedBelow}
use Rattle.fault_model.proofs.classes.follow_all.Given as goal

abbrev pub invariant-loop-fault : goal.invariant-loop-fault
invariant-loop-fault l = FollowedBelow l.list.model l.circuit l.fault l.class_of
