use Rattle.byte_output.proofs.Public.{writes_same}
use Rattle.analysis_reports.proofs.HistogramTexts.{line_of_count}
use Rattle.analysis_reports.proofs.histogram.put_count.Goals as goal

pub returns : goal.returns
returns g c = writes_same _ _ _ _ _
    (line_of_count c.args.count c.args.faults c.format.result.now c.format-2.result.now
    c.format.ensures.text c.format-2.ensures.text) c.put_pieces.ensures
