use Rattle.part_files.proofs.PartPieces.{report_of_texts}
use Rattle.part_files.proofs.laws.one_report.Goals as goal

pub returns : goal.returns
returns c = report_of_texts
