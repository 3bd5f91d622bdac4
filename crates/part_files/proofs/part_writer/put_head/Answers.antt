use Rattle.byte_output.proofs.Public.{writes_same}
use Rattle.part_files.{specs.PartText.said_by, proofs.PartPieces.head_text}
use Rattle.part_files.proofs.part_writer.put_head.Goals as goal

pub returns : goal.returns
returns g c = writes_same _ _ _ _ _ (head_text (said_by c.args.head.now) c.format.result.now
    c.format-2.result.now
    (rw (c.from.ensures) at c.format.ensures.text) c.format-2.ensures.text) c.put_pieces.ensures
