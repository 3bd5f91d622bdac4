use Rattle.std.{proofs.Common.{◌≡◌, ◌≤◌, take}, specs.Prelude.count_by}
use Rattle.fault_ledger.specs.Settled.{is_skipped}
use Rattle.fault_ledger.proofs.closed.Closed.skipped.Given as goal

abbrev pub invariant-loop-piece : goal.invariant-loop-piece
invariant-loop-piece l = record {
  few : l.skipped ≤ l.piece;
  count : l.skipped ≡ count_by is_skipped (take l.piece l.self.states);
}
