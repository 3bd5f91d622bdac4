use Rattle.part_files.proofs.MergedReport.{firsts_of_merge}
use Rattle.part_files.proofs.laws.merged_firsts.Goals as goal

pub returns : goal.returns
returns c = firsts_of_merge c.one_answer.ensures.one_circuit
