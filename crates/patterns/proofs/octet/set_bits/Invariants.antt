use Rattle.std.proofs.Common.{◌==◌, get_or}
use Rattle.patterns.proofs.Lanes.{IsSetBelow}
use Rattle.patterns.proofs.octet.set_bits.Given as goal

abbrev pub invariant-loop-source : goal.invariant-loop-source
invariant-loop-source l =
    IsSetBelow l.initial.bytes l.bytes (λ source. get_or l.row source 0 == 49) l.lane l.source
