use Rattle.byte_output.proofs.Public.{writes_same}
use Rattle.report.proofs.TextPieces.{coverage_text}
use Rattle.report.proofs.report.put_coverage.Goals as goal

pub returns : goal.returns
returns g c = writes_same _ _ _ _ _ (coverage_text c.args.detected c.args.total c.args.counted.now
    c.format.result.now c.format-2.result.now c.format-3.result.now c.format-4.result.now
    c.format-5.result.now c.format.ensures.text c.format-2.ensures.text
    (rw (c.hundredths-hundredths.ensures) at c.format-3.ensures.text)
    (rw (c.hundredths-hundredths.ensures) at c.format-4.ensures.text)
    (rw (c.hundredths-hundredths.ensures) at c.format-5.ensures.text)) c.put_pieces.ensures
