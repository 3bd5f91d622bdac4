use Rattle.fault_model.proofs.BuiltLines.{Built}
use Rattle.fault_model.proofs.faults.list_faults_in.Given as goal

abbrev pub invariant-loop-signal : goal.invariant-loop-signal
invariant-loop-signal l = Built l.circuit l.signal l.lines.items l.stems.items
