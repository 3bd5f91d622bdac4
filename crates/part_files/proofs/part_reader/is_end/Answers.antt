use Rattle.std.{proofs.Common.{ap, ◌∙◌}, specs.Prelude.decimal}
use Rattle.part_files.proofs.PartLines.{end_pieces, end_pieces_only}
use Rattle.part_files.proofs.part_reader.is_end.Goals as goal

pub returns-clause-yes : goal.returns-clause-yes
returns-clause-yes c = λ yes. end_pieces _ _ _ _ _ _ _ _ _
    (rw (c.from.ensures) at c.format.ensures.text) c.format-2.ensures.text (c.format-3.ensures.text
    ∙ ap decimal c.count_found.ensures) (c.format-4.ensures.text ∙ ap decimal c.count_own.ensures)
    (c.is_joined.ensures.yes yes)

pub returns-clause-no : goal.returns-clause-no
returns-clause-no c = λ no e. c.is_joined.ensures.no no
    (end_pieces_only _ _ _ _ _ _ _ _ _ (rw (c.from.ensures) at c.format.ensures.text)
    c.format-2.ensures.text (c.format-3.ensures.text ∙ ap decimal c.count_found.ensures)
    (c.format-4.ensures.text ∙ ap decimal c.count_own.ensures) e)
