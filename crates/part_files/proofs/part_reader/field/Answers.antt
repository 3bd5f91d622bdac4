use Rattle.std.proofs.{Common.{sym, ◌∙◌}, lemmas.Bool.eqb-true}
use Rattle.part_files.proofs.PartWords.{empty_field, no_field}
use Rattle.part_files.proofs.part_reader.field.Goals as goal

pub returns-in_err-word : goal.returns-in_err-word
returns-in_err-word c = rw c.from_residual-in_err-word.ensures (no_field _ _ _
    c.in_ok-rest.ensures c.in_err-word.ensures)

pub returns-then-is_empty : goal.returns-then-is_empty
returns-then-is_empty c = empty_field _ _ _ _ _ c.in_ok-rest.ensures c.in_ok-word.ensures
    (eqb-true _ _ (sym c.is_empty.ensures ∙ c.if-is_empty.true))
