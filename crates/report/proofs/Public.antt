-- Lemmas on the errors of text calls, and on texts of a job as texts of its files. Lemmas on names
-- of cells, on counts of classes, and on a list with a new front. Proofs of the crates above cite
-- only these.
pub use Rattle.report.proofs.CellNames.{cell_is_named}
pub use Rattle.report.proofs.ClassFirsts.{counted_class, uncounted_class}
pub use Rattle.report.proofs.CurvePoints.{written_over}
pub use Rattle.report.proofs.ReportsOfTexts.{ok_as, refused_as}
pub use Rattle.report.proofs.ReportsOfTexts.{written_as}
pub use Rattle.report.proofs.WatchedRuns.{open_fault}
