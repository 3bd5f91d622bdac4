use Rattle.fault_model.proofs.StemClasses.{StemsFrom}
use Rattle.fault_model.proofs.classes.follow_stems.Given as goal

abbrev pub invariant-loop-place : goal.invariant-loop-place
invariant-loop-place l = StemsFrom l.list.model l.circuit l.order l.place l.fn.class_of l.class_of
