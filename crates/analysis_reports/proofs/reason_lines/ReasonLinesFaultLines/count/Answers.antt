use Rattle.std.proofs.Common.{◌∙◌, sym}
use Rattle.analysis_reports.specs.Reasons.{reason_line}
use Rattle.threaded_lines.proofs.Public.{mapped_count}
use Rattle.analysis_reports.proofs.reason_lines.ReasonLinesFaultLines.count.Goals as goal

pub returns : goal.returns
returns c =
    let own = c.args.self.now in
    c.count.ensures ∙ sym (mapped_count (reason_line own.circuit.now) own.list.now.list
    own.reasons.now own.counted)
