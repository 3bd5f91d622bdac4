use Rattle.byte_output.proofs.Public.{writes_same}
use Rattle.analysis_reports.{specs.BlockingReports.cells_in, proofs.BlockingTexts.line_pieces}
use Rattle.analysis_reports.proofs.blocking.put_pin.Goals as goal

pub returns : goal.returns
returns g c = writes_same _ _ _ _ _ (line_pieces (cells_in c.args.pin.now) c.format.result.now
    c.format-2.result.now c.format-3.result.now c.format-4.result.now c.format.ensures.text
    c.format-2.ensures.text c.format-3.ensures.text c.format-4.ensures.text) c.put_pieces.ensures
