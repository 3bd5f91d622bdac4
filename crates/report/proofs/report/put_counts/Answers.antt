use Rattle.byte_output.proofs.Public.{writes_same}
use Rattle.report.proofs.TextPieces.{counts_text}
use Rattle.report.proofs.report.put_counts.Goals as goal

pub returns : goal.returns
returns g c = writes_same _ _ _ _ _
    (counts_text c.args.faults c.args.classes c.format.result.now c.format-2.result.now
    c.format.ensures.text c.format-2.ensures.text) c.put_pieces.ensures
