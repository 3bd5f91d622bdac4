use Rattle.std.proofs.Common.{refl}
use Rattle.flat_circuit.proofs.Representatives.{representative_within, fault_is}
use Rattle.flat_circuit.proofs.origin.representative.Goals as goal

pub line_of-requires : goal.line_of-requires
line_of-requires c = representative_within c.args.list.now.model c.args.circuit.now c.args.list.now
    c.args.classes.now c.args.class c.representative-fault.result
    c.requires.classes c.requires.list c.representative-fault.ensures

pub stuck_of-requires : goal.stuck_of-requires
stuck_of-requires c = representative_within c.args.list.now.model c.args.circuit.now c.args.list.now
    c.args.classes.now c.args.class c.representative-fault.result
    c.requires.classes c.requires.list c.representative-fault.ensures

pub returns : goal.returns
returns c =
    let is = fault_is c.args.list.now.model c.args.circuit.now c.args.list.now
    c.args.classes.now c.args.class
    c.representative-fault.result c.model.result c.line_of.result c.stuck_of.result
    c.requires.classes c.requires.list c.representative-fault.ensures
    c.model.ensures c.line_of.ensures c.stuck_of.ensures in (
      record { model = c.model.result; line = c.line_of.result; stuck = c.stuck_of.result },
      is.0,
      record { listed = is.1; is = refl },
    )
