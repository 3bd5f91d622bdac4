use Rattle.input_check.proofs.Parts.{three_parts}
use Rattle.input_check.proofs.object.add_warnings.Goals as goal

pub returns : goal.returns
returns c =
    let elements = rw (c.without_first.ensures, c.deref.ensures.value, c.in_ok-elements.ensures)
    at c.in_ok-extend_from_slice.ensures.items in
    three_parts _ _ _ _ _ _ _ _ c.in_ok-add_pieces.ensures elements c.add_pieces-2.ensures
