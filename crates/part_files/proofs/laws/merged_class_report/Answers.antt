use Rattle.part_files.proofs.MergedReport.{class_report_of_merge}
use Rattle.part_files.proofs.laws.merged_class_report.Goals as goal

pub returns : goal.returns
returns c = class_report_of_merge c.one_answer.ensures.one_circuit
