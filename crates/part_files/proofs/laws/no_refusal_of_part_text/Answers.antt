use Rattle.part_files.proofs.PartRefusals.{no_refusal}
use Rattle.part_files.proofs.laws.no_refusal_of_part_text.Goals as goal

pub returns : goal.returns
returns c = no_refusal
