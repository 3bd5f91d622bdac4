use Rattle.byte_output.proofs.Public.{writes_same}
use Rattle.report.specs.Report.{wanted_line}
use Rattle.threaded_lines.proofs.Public.{whole_stretch}
use Rattle.report.proofs.report.put_firsts.Goals as goal

pub returns : goal.returns
returns g c = rw (← c.requires.list) (writes_same _ _ _ _ _
    (whole_stretch (wanted_line c.args.lines c.args.circuit.now) c.args.list.now.list
    c.args.verdicts.now.firsts c.count.result c.requires.count c.count.ensures) c.put_lines.ensures)
