use Rattle.part_files.proofs.OnePartText.{one_part}
use Rattle.part_files.proofs.laws.one_part_text.Goals as goal

pub returns : goal.returns
returns c = one_part
