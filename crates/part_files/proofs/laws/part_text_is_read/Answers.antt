use Rattle.part_files.proofs.WrittenParts.{part_is}
use Rattle.part_files.proofs.laws.part_text_is_read.Goals as goal

pub returns : goal.returns
returns c = λ m bench text part parts bytes below few of.
    (of.0, of.2.0, of.1, of.2.1, part_is parts part m bench text bytes below few of)
