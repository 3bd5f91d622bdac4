use Rattle.tables.proofs.Nets.{gate_within}
use Rattle.tables.proofs.row.pin_place.Goals as goal

pub name_of-requires : goal.name_of-requires
name_of-requires c = gate_within c.args.circuit.now c.args.gate c.args.pin c.requires.0 c.requires.1
