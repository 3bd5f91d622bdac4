-- Lemmas on flags of detected faults, and on the names of pins. Proofs of the crates above cite
-- only these.
pub use Rattle.analysis_reports.proofs.BlockTexts.{flags_counted}
pub use Rattle.analysis_reports.proofs.BlockingTexts.{flags_detected, pins_named}
