use Rattle.flat_circuit.proofs.CarriedSignals.{output_signal}
use Rattle.flat_circuit.proofs.line_signals.output_signal.Goals as goal

pub bounds-outputs-output : goal.bounds-outputs-output
bounds-outputs-output c =
    (output_signal c.args.circuit.now c.outputs.result.now c.args.output c.requires.named.0
    c.outputs.ensures c.requires.named.1).0

pub returns : goal.returns
returns c = λ n at.
    (output_signal c.args.circuit.now c.outputs.result.now c.args.output n c.outputs.ensures at).1
