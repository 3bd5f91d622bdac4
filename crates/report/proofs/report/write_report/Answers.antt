use Rattle.report.proofs.report.write_report.Goals as goal

pub returns : goal.returns
returns g c = rw (c.of_list.ensures) at c.write_report_with.ensures
