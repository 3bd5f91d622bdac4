use Rattle.std.proofs.Common.{◌∙◌, ap, sym}
use Rattle.bench_net.specs.Scan.{name_of, outputs, signal}
use Rattle.block_coverage.proofs.SignalNames.{mapped_at, signal_named}
use Rattle.block_coverage.proofs.owner.output_name.Goals as goal

pub name_of-requires : goal.name_of-requires
name_of-requires c =
    let at = mapped_at (signal c.args.circuit.now) (outputs c.args.circuit.now)
    c.outputs.result.now c.args.output c.requires.0 c.outputs.ensures c.requires.1 in
    rw (at.1) (signal_named c.args.circuit.now c.requires.0 c.requires.2).0

pub returns : goal.returns
returns c =
    let at = mapped_at (signal c.args.circuit.now) (outputs c.args.circuit.now)
    c.outputs.result.now c.args.output c.requires.0 c.outputs.ensures c.requires.1 in
    c.requires.1 ∙ sym (c.name_of.ensures ∙ (ap (name_of c.args.circuit.now) at.1
    ∙ (signal_named c.args.circuit.now c.requires.0 c.requires.2).1))
