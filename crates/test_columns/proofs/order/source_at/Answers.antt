use Rattle.std.proofs.Common.{◌∙◌, Some, ap, sym}
use Rattle.test_columns.proofs.SourceNames.{cell_at, input_at, none_at}
use Rattle.test_columns.proofs.order.source_at.Goals as goal

pub name_of-requires : goal.name_of-requires
name_of-requires c = (input_at c.args.circuit.now c.inputs-inputs.result.now c.args.place
    c.inputs-inputs.ensures c.if-place-inputs.true).within

pub returns-then-place-inputs : goal.returns-then-place-inputs
returns-then-place-inputs c =
    let at = input_at c.args.circuit.now c.inputs-inputs.result.now c.args.place
    c.inputs-inputs.ensures c.if-place-inputs.true in
    ap Some c.as_bytes.ensures.value ∙ (c.name_of.ensures ∙ (at.named ∙ sym at.is))

pub name_of-requires-then-place-inputs-2 : goal.name_of-requires-then-place-inputs-2
name_of-requires-then-place-inputs-2 c = (cell_at c.args.circuit.now c.inputs-inputs.result.now
    c.scan_cells-cells.result.now c.args.place (record { q = 0; d = 0 }) c.inputs-inputs.ensures
    c.scan_cells-cells.ensures c.if-place-inputs.false c.if-place-inputs-2.true).within

pub returns-then-place-inputs-2 : goal.returns-then-place-inputs-2
returns-then-place-inputs-2 c =
    let at = cell_at c.args.circuit.now c.inputs-inputs.result.now
    c.scan_cells-cells.result.now c.args.place (record { q = 0; d = 0 }) c.inputs-inputs.ensures
    c.scan_cells-cells.ensures c.if-place-inputs.false c.if-place-inputs-2.true in
    ap Some c.as_bytes-then-place-inputs-2.ensures.value
    ∙ (c.name_of-then-place-inputs-2.ensures ∙ (at.named ∙ sym at.is))

pub returns : goal.returns
returns c = none_at c.args.circuit.now c.inputs-inputs.result.now c.scan_cells-cells.result.now
    c.args.place c.inputs-inputs.ensures c.scan_cells-cells.ensures c.if-place-inputs.false
    c.if-place-inputs-2.false
