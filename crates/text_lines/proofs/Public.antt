-- Lemmas on the rows of a text: its first row, a row of digits 0 and 1, the first row with an
-- error, the rows and the lines of a text that is cut. Proofs of the crates above cite only these.
pub use Rattle.text_lines.proofs.FirstRow.{rows_from_first}
pub use Rattle.text_lines.proofs.BitRow.{before_end, after_end, row_content}
pub use Rattle.text_lines.proofs.RowFaults.{first_fault, no_fault_at}
pub use Rattle.text_lines.proofs.CutRows.{enumerate_from-append, held, held-cut, lines-cut}
