use Rattle.std.proofs.Common.{◌≡◌, map, take, vec_len}
use Rattle.fault_ledger.specs.{History.History, Answer.IsLegal, Settled.status}
use Rattle.workers.specs.Verdict.{settled_at}
use Rattle.workers.proofs.verdicts.verdicts_of.Given as goal

abbrev pub invariant-loop-fault : goal.invariant-loop-fault
invariant-loop-fault g l = record {
  count : vec_len l.firsts ≡ l.fault;
  each : (h : History) → IsLegal (g.L.Statuses.shape_of l.ledger) h → g.L.Statuses.Shows l.ledger h
      → l.firsts.items ≡ map (λ class. settled_at (status (g.L.Statuses.shape_of l.ledger) h class))
      (take l.fault l.job.classes.class_of);
}
