use Rattle.std.{proofs.Common.{◌∙◌, ap, sym}, specs.Prelude.Some}
use Rattle.flat_circuit.proofs.Rows.{mapped_get}
use Rattle.flat_circuit.proofs.block_view.GroupWords.of.Goals as goal

pub returns : goal.returns
returns c =
    mapped_get (λ row. row.items) c.args.self.rows.now c.args.group c.index-self-group.result
    c.requires c.index-self-group.is
    ∙ (ap (λ row. Some row.items) c.index-self-group.is ∙ ap Some (sym c.as_slice.ensures.value))
