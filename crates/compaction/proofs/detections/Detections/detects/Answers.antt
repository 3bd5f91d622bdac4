use Rattle.std.proofs.Common.{◌/◌, ◌%◌, ◌∙◌, List, ap, get_or}
use Rattle.flat_circuit.specs.Words.{lane}
use Rattle.compaction.proofs.detections.Detections.detects.Goals as goal

pub returns : goal.returns
returns c = c.bit_of.ensures
    ∙ ap (λ (xs : List _). lane (get_or xs (c.args.test / 128) 0) (c.args.test % 128))
    c.row.ensures.words
