-- Lemmas on changed words and waiting gates. Proofs of the crates above cite only these.
pub use Rattle.event_queue.proofs.Zeros.{index_zero}
