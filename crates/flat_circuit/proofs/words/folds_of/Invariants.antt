use Rattle.std.proofs.Common.{◌≤◌, length}
use Rattle.flat_circuit.{specs.Stuck.fault_of, proofs.GateLanes.AreFolds}
use Rattle.flat_circuit.proofs.words.folds_of.Given as goal

abbrev pub invariant-loop-place : goal.invariant-loop-place
invariant-loop-place l = record {
  folds : AreFolds (fault_of l.fault) l.signal l.gate.pins.now l.words l.delta
      l.gate.form.inverts_inputs l.place l.all l.odd;
  within : l.place ≤ length l.gate.pins.now;
}
