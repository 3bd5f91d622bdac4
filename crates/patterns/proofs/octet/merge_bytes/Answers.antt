use Rattle.std.proofs.Common.{◌+◌, ◌*◌, ◌^◌, ◌%◌, get_or, set, subst, sym, arith, bit_or}
use Rattle.patterns.proofs.Octets.{IsMergedBelow, IsMergedBelow-more}
use Rattle.patterns.proofs.octet.merge_bytes.Goals as goal

pub loop-source-preserved : goal.loop-source-preserved
loop-source-preserved c =
    let at = c.loop-source in
    subst (λ b. IsMergedBelow c.args.words.now (set at.words at.source
    (bit_or (get_or at.words at.source 0) (b * 2 ^ c.args.lane % 2 ^ 64))) c.args.bytes.now
    c.args.lane (at.source + 1)) (sym c.from.ensures)
    (IsMergedBelow-more c.args.words.now at.words c.args.bytes.now c.args.lane at.source
    c.requires.lane (omega arith) at.invariant)
