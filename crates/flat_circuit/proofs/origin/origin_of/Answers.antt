use Rattle.std.proofs.Common.{◌≡◌, ◌∙◌, ap, refl}
use Rattle.fault_model.specs.{Detection.name_on, Fault.Fault, Reordered.{moved_fault, moved_line}}
use Rattle.flat_circuit.specs.Stuck.{stuck_fault}
use Rattle.flat_circuit.proofs.ArrangedFaults.{carried_name, carries_there, moved_there}
use Rattle.flat_circuit.proofs.origin.origin_of.Goals as goal

pub moved-fault-requires : goal.moved-fault-requires
moved-fault-requires c = carried_name c.args.circuit.now.statements c.requires.0 c.args.stuck
    c.signals-signals.ensures.given.well_formed c.requires.1

pub carried-requires-clause-named : goal.carried-requires-clause-named
carried-requires-clause-named c =
    let circuit = c.args.circuit.now.statements in
    let there = c.args.circuit.now.arranged in
    let fault = c.requires.0 in
    let is : stuck_fault c.moved-fault.result ≡ moved_fault circuit there fault =
    moved_there circuit there circuit fault c.args.stuck c.moved-fault.result refl
    c.moved-fault.ensures c.requires.1.is in
    let line : c.moved-fault.result.line ≡ moved_line circuit there fault.line =
    ap (λ (f : Fault). f.line) is in
    let named = carries_there circuit there c.signals-signals.ensures.given.well_formed
    c.signals-signals.ensures.arranged fault.model fault c.requires.1.listed in
    (named.0, ap (name_on there) line ∙ named.1)

pub returns : goal.returns
returns c = λ f stands.
    let circuit = c.args.circuit.now.statements in
    let there = c.args.circuit.now.arranged in
    record {
      listed = stands.listed;
      moved = moved_there circuit there circuit f c.args.stuck c.moved-fault.result refl
          c.moved-fault.ensures stands.is;
      carried = c.carried.ensures;
    }
