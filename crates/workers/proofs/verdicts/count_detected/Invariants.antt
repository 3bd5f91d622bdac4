use Rattle.std.proofs.Common.{◌≡◌, ◌≤◌, take}
use Rattle.workers.specs.Verdict.{detected_count}
use Rattle.workers.proofs.verdicts.count_detected.Given as goal

abbrev pub invariant-loop-first : goal.invariant-loop-first
invariant-loop-first l = record {
  few : l.detected ≤ l.first-index;
  detected : l.detected ≡ detected_count (take l.first-index l.firsts);
}
