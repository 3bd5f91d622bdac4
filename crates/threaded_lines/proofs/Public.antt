-- Lemmas on the lines of pairs, and of stretches of a list. Proofs of the crates above cite only
-- these.
pub use Rattle.threaded_lines.proofs.LinesByPairs.{all_zipped, line_stopped, line_taken}
pub use Rattle.threaded_lines.proofs.LinesByPairs.{lines_taken, zipped_by}
pub use Rattle.threaded_lines.proofs.LinesOfStretches.{all_mapped, line_cut, line_left, line_put}
pub use Rattle.threaded_lines.proofs.LinesOfStretches.{mapped_between, mapped_count, whole_stretch}
