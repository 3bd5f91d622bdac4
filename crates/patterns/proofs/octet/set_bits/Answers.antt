use Rattle.std.proofs.Common.{◌==◌, get_or, w8, arith}
use Rattle.patterns.proofs.Lanes.{IsSetBelow-chosen}
use Rattle.patterns.proofs.octet.set_bits.Goals as goal

pub loop-source-preserved : goal.loop-source-preserved
loop-source-preserved c =
    IsSetBelow-chosen w8 _ _ (λ source. get_or c.args.row.now source 0 == 49) _ _ _
    c.bit_if_one.ensures c.requires.lane (omega arith) c.loop-source.invariant
