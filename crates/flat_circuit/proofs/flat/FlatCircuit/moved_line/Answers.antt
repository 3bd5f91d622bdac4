use Rattle.std.proofs.Common.{◌∙◌, ap, sym}
use Rattle.fault_model.specs.Detection.{name_on}
use Rattle.flat_circuit.proofs.CarriedSignals.{gate_within}
use Rattle.flat_circuit.proofs.flat.FlatCircuit.moved_line.Goals as goal

pub place_of-requires-in-Pin : goal.place_of-requires-in-Pin
place_of-requires-in-Pin c =
    gate_within c.args.self.now.statements c.in-Pin.gate c.in-Pin.pin c.requires.0
    (ap (name_on c.args.self.now.statements) (sym c.in-Pin.is) ∙ c.requires.1)
