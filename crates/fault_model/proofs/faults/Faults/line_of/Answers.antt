use Rattle.std.{proofs.Common.{◌<◌, length, arith, subst, sym}, specs.Prelude.flat_map}
use Rattle.fault_model.{specs.Fault.both, proofs.FaultTables.{half_within, line_read}}
use Rattle.fault_model.proofs.faults.Faults.line_of.Goals as goal

pub index-requires : goal.index-requires
index-requires c =
    let inside : c.args.fault
    < length (flat_map (both c.self.inside.model) c.self.inside.lines.items) =
    subst (λ x. c.args.fault < length x.list) (sym c.self.view_is) c.requires in
    omega (
      arith,
      half_within c.self.inside.model c.self.inside.lines.items c.args.fault inside,
      c.self.inside.lines.ok.0,
    )

pub returns : goal.returns
returns c =
    let inside : c.args.fault
    < length (flat_map (both c.self.inside.model) c.self.inside.lines.items) =
    subst (λ x. c.args.fault < length x.list) (sym c.self.view_is) c.requires in
    rw (← c.self.view_is) (line_read c.self.inside.model c.self.inside.lines.items c.args.fault
    c.index.result.now inside c.index.ensures)
