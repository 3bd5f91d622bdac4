use Rattle.std.proofs.Common.{sym, ◌∙◌, subst}
use Rattle.part_files.{specs.Cut.Lacks, proofs.CutTexts.lacks_not}
use Rattle.part_files.proofs.PartLines.{body_of, line_once, line_read}
use Rattle.part_files.proofs.part_reader.line_of.Goals as goal

pub returns-in_err-name : goal.returns-in_err-name
returns-in_err-name c = rw c.from_residual.ensures (λ at ok e.
    lacks_not 32 at.0 _ (subst (λ l. Lacks 32 l) (body_of at _ e) c.in_err-name.ensures))

pub returns-in_err-verdict : goal.returns-in_err-verdict
returns-in_err-verdict c = rw c.from_residual-in_err-verdict.ensures (λ at ok e.
    c.in_err-verdict.ensures at.1 ok.verdict (line_once at _ _ _ ok e c.in_ok-name.ensures).1)

pub returns-in-Some : goal.returns-in-Some
returns-in-Some c = λ at ok e. ok.name.no_end _
    (sym (line_once at _ _ _ ok e c.in_ok-name.ensures).0 ∙ c.in-Some.ensures)

pub returns-in-None : goal.returns-in-None
returns-in-None c = line_read _ _ _ _ c.requires c.in_ok-name.ensures c.in-None.ensures
    c.in_ok-verdict.ensures
