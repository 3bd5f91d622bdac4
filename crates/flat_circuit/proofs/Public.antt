-- Lemmas on the parts of a circuit in flat arrays, by topic. Proofs of the crates above cite only
-- these.
-- ---- lists, bits and lanes of words
pub use Rattle.flat_circuit.proofs.Lanes.{lane_and, lane_not, lane_ones, lane_or, lane_xor}
pub use Rattle.flat_circuit.proofs.Lanes.{lane_zero, unlike}
pub use Rattle.flat_circuit.proofs.Steps.{changed_to, lane_of_zero, lanes_decide, left_behind}
pub use Rattle.flat_circuit.proofs.Steps.{left_of, left_out, no_change, only_lanes, restored}
pub use Rattle.flat_circuit.proofs.Steps.{right_of, some_lane, turned_lanes}
pub use Rattle.flat_circuit.proofs.ListPlaces.{index_of, mapped_at, set_here, set_there}
pub use Rattle.flat_circuit.proofs.Rows.{each_row, mapped_get, pushed_get}
pub use Rattle.flat_circuit.proofs.PinFolds.{all_first, all_last, all_more, odd_first, odd_last}
pub use Rattle.flat_circuit.proofs.PinFolds.{odd_more, odd_only}
pub use Rattle.flat_circuit.proofs.GateLanes.{at_last, chosen_lane, turned_lane}
pub use Rattle.flat_circuit.proofs.FourWords.{of_four}
pub use Rattle.flat_circuit.proofs.TurnedPins.{turned_pins}
-- ---- words and the solutions of a circuit
pub use Rattle.flat_circuit.proofs.WordsToSolutions.{lane_same, pins_named}
pub use Rattle.flat_circuit.proofs.Equations.{gate_at, nothing, pins_few, pins_some, pins_within}
-- ---- readers, levels and observers
pub use Rattle.flat_circuit.proofs.CarriedSignals.{gate_within, never, pin_of}
pub use Rattle.flat_circuit.proofs.Readers.{no_loop, reader_within}
pub use Rattle.flat_circuit.proofs.LevelOrder.{order_within}
pub use Rattle.flat_circuit.proofs.LevelsRise.{has_level, level_at}
pub use Rattle.flat_circuit.proofs.ObservedLines.{data_observed, observed_named, output_observed}
pub use Rattle.flat_circuit.proofs.ObservedSinks.{at_end}
-- ---- the signals of a circuit in another order
pub use Rattle.flat_circuit.proofs.ReorderedReaders.{same_readers}
pub use Rattle.flat_circuit.proofs.ArrangedSignals.{count_there, reordered, signals_there}
pub use Rattle.flat_circuit.proofs.ArrangedSignals.{sources_there, well_there, within_there}
pub use Rattle.flat_circuit.proofs.ArrangedFaults.{carried_is, carried_name, circuit_there}
pub use Rattle.flat_circuit.proofs.ArrangedFaults.{listed_there, moved_there, starts_there}
-- ---- representatives, and the stems of regions
pub use Rattle.flat_circuit.proofs.OnePin.{pin_law}
pub use Rattle.flat_circuit.proofs.Stems.{class_has_stem, lead_law, lone_within, one_class_stem}
pub use Rattle.flat_circuit.proofs.Stems.{one_stem_law, some_stem_law}
pub use Rattle.flat_circuit.proofs.Representatives.{representative_at}
