use Rattle.byte_output.proofs.Public.{writes_same}
use Rattle.report.proofs.TextPieces.{point_text}
use Rattle.report.proofs.curve.put_point.Goals as goal

pub returns : goal.returns
returns g c = writes_same _ _ _ _ _ (point_text c.args.total c.args.point c.format.result.now
    c.format-2.result.now c.format-3.result.now c.format-4.result.now c.format-5.result.now
    c.format.ensures.text c.format-2.ensures.text
    (rw (c.hundredths-hundredths.ensures) at c.format-3.ensures.text)
    (rw (c.hundredths-hundredths.ensures) at c.format-4.ensures.text)
    (rw (c.hundredths-hundredths.ensures) at c.format-5.ensures.text)) c.put_pieces.ensures
