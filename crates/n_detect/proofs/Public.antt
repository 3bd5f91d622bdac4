-- Lemmas on what a run for counts keeps, and on the number of set bits of a word. Proofs of the
-- crates above cite only these.
pub use Rattle.n_detect.proofs.ClassCounts.{fault_count}
pub use Rattle.n_detect.proofs.CountsBefore.{count_kept, ones_kept}
pub use Rattle.n_detect.proofs.RangeCounts.{ones_lanes}
