use Rattle.std.proofs.{Common.{◌∙◌, sym}, lemmas.Bool.Decides.Decides-eqb}
use lib.Pointwise.{pointwise_decides}
use Rattle.part_files.proofs.PartWords.{differs}
use Rattle.part_files.proofs.joining.is_same.Goals as goal

pub returns-clause-yes : goal.returns-clause-yes
returns-clause-yes c = λ yes. (pointwise_decides Decides-eqb _ _).0 (sym c.eq.ensures ∙ yes)

pub returns-clause-no : goal.returns-clause-no
returns-clause-no c = λ no e. differs _ _ e (sym c.eq.ensures ∙ no)
