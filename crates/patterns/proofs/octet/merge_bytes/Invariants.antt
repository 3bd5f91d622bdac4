use Rattle.patterns.proofs.Octets.{IsMergedBelow}
use Rattle.patterns.proofs.octet.merge_bytes.Given as goal

abbrev pub invariant-loop-source : goal.invariant-loop-source
invariant-loop-source l = IsMergedBelow l.initial.words l.words l.bytes l.lane l.source
