-- Lemmas on seats, on settled classes of a ledger, and on the classes of a job. Proofs of
-- the crates above cite only these.
pub use Rattle.workers.proofs.SeatCalls.{given}
pub use Rattle.workers.proofs.SettledLedgers.{all_settled, finished_settled, settled_finished}
pub use Rattle.workers.proofs.ThreadHandles.{own_newcomer}
pub use Rattle.workers.proofs.TrueOutcomes.{class_count, class_in, take_more}
