use Rattle.fault_model.proofs.{ReorderedNames.circuit_reordered, ReorderedSignals.same_signals}
use Rattle.fault_model.proofs.{ReorderedSinks.same_sinks, ReorderedSolutions.detected_same_at}
use Rattle.fault_model.proofs.ReorderedSolutions.{solved_same, detected_same, same_bits}
use Rattle.fault_model.proofs.StatementOrders.{in_signal_order, one_level_order, ordered_by_level}
use Rattle.fault_model.proofs.laws.reordering.Goals as goal

pub returns-clause-circuit : goal.returns-clause-circuit
returns-clause-circuit goal c d moved is = circuit_reordered c d moved.statements is

pub returns-clause-signals : goal.returns-clause-signals
returns-clause-signals c = same_signals

pub returns-clause-sinks : goal.returns-clause-sinks
returns-clause-sinks c = same_sinks

pub returns-clause-solved_same : goal.returns-clause-solved_same
returns-clause-solved_same c = solved_same

pub returns-clause-detected_same : goal.returns-clause-detected_same
returns-clause-detected_same c = detected_same

pub returns-clause-same_bits : goal.returns-clause-same_bits
returns-clause-same_bits c = same_bits

pub returns-clause-detected_same_at : goal.returns-clause-detected_same_at
returns-clause-detected_same_at c = detected_same_at

pub returns-clause-in_order : goal.returns-clause-in_order
returns-clause-in_order goal c order well is = in_signal_order c order is well

pub returns-clause-by_level : goal.returns-clause-by_level
returns-clause-by_level goal c order well is = ordered_by_level c order is well

pub returns-clause-one_order : goal.returns-clause-one_order
returns-clause-one_order goal c order other well = one_level_order c well order other
