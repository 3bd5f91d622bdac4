-- Lemmas on circuits: names with a number, the line that defines a name, files that are circuits.
-- Then those of the steps from a text to a circuit. Proofs of the crates above cite only these.
pub use Rattle.bench_net.specs.reader.Entries.{is_in}
pub use Rattle.bench_net.proofs.GateLevels.{named as defined_among, of_cell, of_input}
pub use Rattle.bench_net.proofs.OneAnswer.{answer_text, accepted_by, refused_by}
pub use Rattle.bench_net.proofs.Names.{bytes_refl, same_bytes, at_position, definition_defines}
pub use Rattle.bench_net.proofs.Names.{name_of-signal, read_named, signal-name_of}
pub use Rattle.bench_net.proofs.Reader.{complete_states, sound_states}
pub use Rattle.bench_net.proofs.StuckSets.{some_signal, stuck}
-- ---- numbered lines of a text, and circuits of numbered lines
pub use Rattle.bench_net.proofs.NumberedLines.{assembled, within as within_limits}
pub use Rattle.bench_net.proofs.CircuitTables.{circuit as circuit_of_tables, count as table_count}
pub use Rattle.bench_net.proofs.CircuitTables.{inside as inside_of_tables, refused as refused_lines}
pub use Rattle.bench_net.proofs.CircuitTables.{table_lines}
