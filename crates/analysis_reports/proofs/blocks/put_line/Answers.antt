use Rattle.std.proofs.lemmas.Result.{err_from_is_err_and}
use Rattle.byte_output.proofs.Public.{stopped_before, writes_same, writes_then}
use Rattle.report.specs.Report.{coverage_line}
use Rattle.analysis_reports.proofs.BlockTexts.{line_pieces}
use Rattle.analysis_reports.proofs.blocks.put_line.Goals as goal

pub returns-in_err-put_pieces : goal.returns-in_err-put_pieces
returns-in_err-put_pieces g c =
    let p = err_from_is_err_and c.from_residual.result c.from_residual.ensures.1 in
    rw (p.1, ← line_pieces c.args.row.now) (stopped_before _
    (coverage_line c.args.row.now.detected c.args.row.now.faults) _ _ c.in_err-put_pieces.ensures)

pub returns : goal.returns
returns g c = writes_same _ _ _ _ _ (line_pieces c.args.row.now)
    (writes_then _ _ _ _ _ _ c.in_ok-put_pieces.ensures c.put_coverage.ensures)
