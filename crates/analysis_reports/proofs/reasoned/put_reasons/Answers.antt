use Rattle.std.specs.Prelude.{zip}
use Rattle.byte_output.proofs.Public.{writes_same}
use Rattle.analysis_reports.specs.Reasons.{reason_line}
use Rattle.threaded_lines.proofs.Public.{all_mapped}
use Rattle.analysis_reports.proofs.reasoned.put_reasons.Goals as goal

pub returns : goal.returns
returns g c = rw (← c.requires.list) (writes_same _ _ _ _ _
    (all_mapped (reason_line c.args.circuit.now)
    (zip c.args.list.now.list c.args.reasons.now)) c.put_in_threads.ensures)
