-- Lemmas on circuits and faults: the definition and the readers of a name, lists, classes,
-- solutions and what shows a fault. Proofs of the crates above cite only these.
pub use Rattle.fault_model.proofs.CarriedNames.{carries}
pub use Rattle.fault_model.proofs.ComputedDetection.{detects, is_solved, same_bit}
pub use Rattle.fault_model.proofs.ComputedDetection.{solves}
pub use Rattle.fault_model.proofs.ClassLaws.{detection_is_of_any_solution, has_solutions, own_class}
pub use Rattle.fault_model.proofs.SomeSolution.{solution, solution_solves}
pub use Rattle.fault_model.proofs.NextFaultLevels.{below_fold, below_greatest}
pub use Rattle.fault_model.proofs.ListedFaults.{IsOn, branch_among, listed_model, listed_on}
pub use Rattle.fault_model.proofs.ListedFaults.{same_lines, under_other, under_own}
pub use Rattle.fault_model.proofs.FaultLines.{faults_within}
pub use Rattle.fault_model.proofs.LookBack.{classes_detected_same}
pub use Rattle.fault_model.proofs.PlainPrograms.{bit_within, class_of, first_within, rep}
pub use Rattle.fault_model.proofs.ShownAlike.{observes}
pub use Rattle.fault_model.proofs.SignalsDefined.{IsSource, defined_among, definition-signal}
pub use Rattle.fault_model.proofs.SignalsDefined.{signal_apart, source_definition, source_named}
pub use Rattle.fault_model.proofs.SignalsDefined.{source_place}
pub use Rattle.fault_model.proofs.SignalsOnce.{data_reads, out_reads}
pub use Rattle.fault_model.proofs.SignalsSinks.{pin_among, pin_reads}
pub use Rattle.fault_model.proofs.OneSolution.{Driven, agree, driven, pins_agree}
pub use Rattle.fault_model.proofs.ReorderedNames.{circuit_reordered, well_reordered}
pub use Rattle.fault_model.proofs.ReorderedSignals.{same_signals, same_sources, stands_back}
pub use Rattle.fault_model.proofs.ReorderedSignals.{stands_there}
pub use Rattle.fault_model.proofs.ReorderedSinks.{same_sinks}
pub use Rattle.fault_model.proofs.ReorderedSolutions.{detected_same, detected_same_at, same_bits}
pub use Rattle.fault_model.proofs.ReorderedSolutions.{looks_back_same, solved_same, under_moved}
pub use Rattle.fault_model.proofs.SpannedNumbers.{Spans, span_within}
pub use Rattle.fault_model.proofs.StatementOrders.{in_signal_order}
