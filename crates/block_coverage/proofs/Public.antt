-- Lemmas on the names of signals and cells, from the results of the calls of a circuit. Proofs of
-- the crates above cite only these.
pub use Rattle.block_coverage.proofs.SignalNames.{mapped_at, q_named, signal_named, stored_at}
