use Rattle.std.proofs.Common.{◌≡◌, length}
use Rattle.undetected.proofs.KnownReasons.{AreKnown}
use Rattle.undetected.proofs.finding.reasons_by.Given as goal

-- the reasons of the faults so far
abbrev pub invariant-loop-fault : goal.invariant-loop-fault
invariant-loop-fault l = record {
  count : length l.reasons.items ≡ l.fault;
  known : AreKnown l.run.whole l.verdicts.firsts l.reasons.items;
}
