-- Lemmas on histories of a ledger: pieces, entries, held pieces and settled classes. Proofs of the
-- crates above cite only these.
pub use Rattle.fault_ledger.proofs.Acceptance.{claim_answer, drop_answer, report_answer}
pub use Rattle.fault_ledger.proofs.ClassLooks.{ClearBelow, settled_stays, skipped_not_first}
pub use Rattle.fault_ledger.proofs.AllSettled.{finish-all}
pub use Rattle.fault_ledger.proofs.Histories.{claims_past, entry_past}
pub use Rattle.fault_ledger.proofs.Histories.{held-holds, held_goes_on, held_once}
pub use Rattle.fault_ledger.proofs.Histories.{held_open, unclaimed_open}
pub use Rattle.fault_ledger.proofs.LegalHistories.{claim_accepted, drop_accepted, held_piece}
pub use Rattle.fault_ledger.proofs.LegalHistories.{legal_after, legal_claims, report_accepted}
pub use Rattle.fault_ledger.proofs.PieceNumbers.{at-of, block_of-at, block_of-below, class_of-at}
pub use Rattle.fault_ledger.proofs.PieceNumbers.{piece_at-below, some_class}
pub use Rattle.fault_ledger.proofs.LeastTests.{settles_at_least}
pub use Rattle.fault_ledger.proofs.SeatSteps.{drop_at, held_sees, sees_kept, sees_twice}
pub use Rattle.fault_ledger.proofs.SeatSteps.{sitter_sees}
pub use Rattle.fault_ledger.proofs.ClassStatus.{status-hit, status-none, status-open}
