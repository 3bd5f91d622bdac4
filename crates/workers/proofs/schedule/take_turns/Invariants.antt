use Rattle.std.proofs.Common.{◌≡◌}
use Rattle.patterns.specs.Least.{Table}
use Rattle.fault_ledger.specs.{History.History, Answer.IsLegal, Face.face}
use Rattle.workers.{specs.Schedule.IsTableOf, proofs.MoveLists.{Turned, left_of}}
use Rattle.workers.specs.Swept.{IsSweptOf}
use Rattle.workers.proofs.schedule.take_turns.Given as goal

abbrev pub invariant-turns : goal.invariant-turns
invariant-turns l = record {
  shape : l.ledger.shape ≡ l.fn.ledger.shape;
  serves : IsSweptOf l.job l.swept;
  turned : (table : Table) (h : History) → IsTableOf l.job table → IsLegal l.fn.ledger.shape h
      → l.fn.ledger ≡ face l.fn.ledger.shape h
      → Turned table l.fn.ledger.shape h l.ledger l.skipped;
}

abbrev pub decreases-turns : goal.decreases-turns
decreases-turns l = left_of l.ledger
