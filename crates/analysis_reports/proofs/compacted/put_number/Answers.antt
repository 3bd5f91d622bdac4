use Rattle.byte_output.proofs.Public.{writes_same}
use Rattle.analysis_reports.proofs.CompactedTexts.{line_of_number}
use Rattle.analysis_reports.proofs.compacted.put_number.Goals as goal

pub returns : goal.returns
returns g c = writes_same _ _ _ _ _
    (line_of_number c.args.number c.format.result.now c.format.ensures.text) c.put_pieces.ensures
