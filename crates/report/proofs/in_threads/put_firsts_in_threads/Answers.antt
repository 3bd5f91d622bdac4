use Rattle.std.specs.Prelude.{zip}
use Rattle.byte_output.proofs.Public.{writes_same}
use Rattle.report.specs.Report.{wanted_line}
use Rattle.threaded_lines.proofs.Public.{all_mapped}
use Rattle.report.proofs.in_threads.put_firsts_in_threads.Goals as goal

pub returns : goal.returns
returns g c = rw (← c.requires.list) (writes_same _ _ _ _ _
    (all_mapped (wanted_line c.args.lines c.args.circuit.now)
    (zip c.args.list.now.list c.args.verdicts.now.firsts)) c.put_in_threads.ensures)
