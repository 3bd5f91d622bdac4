-- Lemmas on the moves of an order. Proofs of the crates above cite only these.
pub use Rattle.orders.proofs.OneAnswer.{All-has_moves}
