-- Lemmas on words of 512 lanes. Proofs of the crates above cite only these.
pub use Rattle.wide_words.proofs.Parts.{some_lane}
