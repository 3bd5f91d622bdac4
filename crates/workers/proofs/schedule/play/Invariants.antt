use Rattle.std.proofs.Common.{◌≡◌, take}
use Rattle.patterns.specs.Least.{Table}
use Rattle.fault_ledger.specs.{History.History, Answer.IsLegal, Face.face}
use Rattle.workers.{specs.Schedule.IsTableOf, proofs.MoveLists.Done, specs.Swept.IsSweptOf}
use Rattle.workers.proofs.schedule.play.Given as goal

abbrev pub invariant-loop-worker : goal.invariant-loop-worker
invariant-loop-worker l = record {
  shape : l.ledger.shape ≡ l.fn.ledger.shape;
  serves : IsSweptOf l.job l.swept;
  done : (table : Table) (h : History) → IsTableOf l.job table → IsLegal l.fn.ledger.shape h
      → l.fn.ledger ≡ face l.fn.ledger.shape h
      → Done table l.fn.ledger.shape h (take l.worker-index l.moves) l.ledger l.skipped l.changed;
}
