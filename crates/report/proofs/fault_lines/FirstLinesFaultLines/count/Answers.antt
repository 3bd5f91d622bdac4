use Rattle.std.proofs.Common.{◌∙◌, sym}
use Rattle.report.specs.Report.{wanted_line}
use Rattle.threaded_lines.proofs.Public.{mapped_count}
use Rattle.report.proofs.fault_lines.FirstLinesFaultLines.count.Goals as goal

pub returns : goal.returns
returns c =
    let own = c.args.self.now in
    c.count.ensures ∙ sym (mapped_count (wanted_line own.lines own.circuit.now) own.list.now.list
    own.verdicts.now.firsts own.counted)
