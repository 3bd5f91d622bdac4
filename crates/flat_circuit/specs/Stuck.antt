-- The fault that a fault in the form of the code stands for.
use Rattle.std.specs.Prelude.{Option, option_map}
use Rattle.fault_model.specs.Fault.{Fault}
use Rattle.flat_circuit.specs.declared.words.Stuck.{Stuck}

abbrev pub stuck_fault : Stuck → Fault
stuck_fault s = record { model = s.model; line = s.line; stuck = s.at_one }

abbrev pub fault_of : Option Stuck → Option Fault
fault_of stuck = option_map stuck_fault stuck
