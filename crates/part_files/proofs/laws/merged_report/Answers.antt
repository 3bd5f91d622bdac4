use Rattle.part_files.proofs.MergedReport.{report_of_merge}
use Rattle.part_files.proofs.laws.merged_report.Goals as goal

pub returns : goal.returns
returns c = report_of_merge c.one_answer.ensures.one_circuit
