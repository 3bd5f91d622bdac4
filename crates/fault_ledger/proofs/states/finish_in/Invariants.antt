use Rattle.fault_ledger.proofs.AllSettled.{SettledBelow}
use Rattle.fault_ledger.proofs.states.finish_in.Given as goal

abbrev pub invariant-loop-class : goal.invariant-loop-class
invariant-loop-class l = SettledBelow l.shape l.states l.class
