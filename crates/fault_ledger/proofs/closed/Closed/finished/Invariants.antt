use Rattle.fault_ledger.proofs.AllSettled.{SettledBelow}
use Rattle.fault_ledger.proofs.closed.Closed.finished.Given as goal

abbrev pub invariant-loop-class : goal.invariant-loop-class
invariant-loop-class l = SettledBelow l.self.shape l.self.states l.class
