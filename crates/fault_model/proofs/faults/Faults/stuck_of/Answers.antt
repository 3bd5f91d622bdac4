use Rattle.std.{proofs.Common.{◌<◌, length, subst, sym}, specs.Prelude.flat_map}
use Rattle.fault_model.{specs.Fault.both, proofs.FaultTables.stuck_read}
use Rattle.fault_model.proofs.faults.Faults.stuck_of.Goals as goal

pub returns : goal.returns
returns c =
    let inside : c.args.fault
    < length (flat_map (both c.self.inside.model) c.self.inside.lines.items) =
    subst (λ x. c.args.fault < length x.list) (sym c.self.view_is) c.requires in
    rw (← c.self.view_is)
    (stuck_read c.self.inside.model c.self.inside.lines.items c.args.fault inside)
