use Rattle.std.{proofs.Common.{◌∙◌, ap}, specs.Prelude.decimal}
use Rattle.byte_output.proofs.Public.{writes_same}
use Rattle.analysis_reports.proofs.ReasonTexts.{counts_line}
use Rattle.analysis_reports.proofs.reasoned.put_reason_counts.Goals as goal

pub returns : goal.returns
returns g c = writes_same _ _ _ _ _
    (counts_line c.args.reasons.now c.format.result.now c.format-2.result.now
    c.format-3.result.now (c.format.ensures.text ∙ ap decimal c.count_of.ensures)
    (c.format-2.ensures.text ∙ ap decimal c.count_of-2.ensures)
    (c.format-3.ensures.text ∙ ap decimal c.count_of-3.ensures)) c.put_pieces.ensures
