use Rattle.std.proofs.Common.{◌≡◌, [], ◌∷◌, IfOk, subst}
use Rattle.input_check.specs.Objects.{ErrorCells, errors_object}
use Rattle.input_check.proofs.object.answer_object.Goals as goal

pub returns-in_ok-excess_row-in-TooManyPieces : goal.returns-in_ok-excess_row-in-TooManyPieces
returns-in_ok-excess_row-in-TooManyPieces c =
    let P : ErrorCells → Type 0 = λ e. IfOk c.errors_object-in-TooManyPieces.result
    (λ text. text.items ≡ errors_object (e ∷ []) 0) in
    rw (c.in-TooManyPieces.is) (subst P c.in_ok-excess_row-in-TooManyPieces.ensures
    c.errors_object-in-TooManyPieces.ensures)
