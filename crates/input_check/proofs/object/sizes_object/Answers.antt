use Rattle.input_check.proofs.Parts.{six_parts}
use Rattle.input_check.proofs.object.sizes_object.Goals as goal

pub returns : goal.returns
returns c =
    let begun = rw (c.new-text.ensures.items) at c.in_ok-add_head.ensures in
    let warned = rw (c.deref.ensures.value) at c.in_ok-add_warnings.ensures in
    six_parts _ _ _ _ _ _ _ _ _ _ _ _ begun c.in_ok-add_circuit.ensures
    c.in_ok-add_limit.ensures c.in_ok-add_run.ensures warned c.in_ok-add_pieces.ensures
