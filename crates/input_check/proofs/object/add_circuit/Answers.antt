use Rattle.input_check.proofs.Parts.{three_parts}
use Rattle.input_check.proofs.object.add_circuit.Goals as goal

pub returns : goal.returns
returns c = three_parts _ _ _ _ _ _ _ _ c.in_ok-add_ports.ensures c.in_ok-add_gates.ensures
    c.add_signals.ensures
