-- Lemmas on outcomes: there is a true table, each outcome is unique, and each test detects or
-- doesn't. Then those of a simulation's parts, by topic. Proofs of the crates above cite only
-- these.
pub use Rattle.block_sim.proofs.LawOfTable.{least_is_first}
pub use Rattle.block_sim.proofs.TrueTable.{one_outcome, true_table, which_detect}
-- ---- words and the solutions of a circuit
pub use Rattle.block_sim.proofs.SignalEquations.{each_equation, equation_elsewhere, equation_same}
pub use Rattle.block_sim.proofs.SignalEquations.{gate_named as gate_named_of_signal_equations}
pub use Rattle.block_sim.proofs.Outcomes.{clear_before, hit_at}
-- ---- readers, levels and live signals
pub use Rattle.block_sim.proofs.CountedSignals.{counts_closed, reader_live}
-- ---- the signals of a circuit in another order
pub use Rattle.block_sim.proofs.ArrangedRoom.{room_there}
pub use Rattle.block_sim.proofs.ReorderedStems.{same_stems}
pub use Rattle.block_sim.proofs.ReorderedGates.{same_flips}
-- ---- complemented signals and the regions of stems
pub use Rattle.block_sim.proofs.EnteredGates.{Enters, arg_named, free_pins}
pub use Rattle.block_sim.proofs.EnteredGates.{gate_named as gate_named_of_entered_gates, outside}
pub use Rattle.block_sim.proofs.Flips.{altered, bit_is, entered_back, entered_there, not_itself}
pub use Rattle.block_sim.proofs.Flips.{pin_enters, stem_back, stem_stuck, stem_there, turned_of}
pub use Rattle.block_sim.proofs.Regions.{fault_law, observer_law, step_law}
pub use Rattle.block_sim.proofs.Arrivals.{dead_flip, leads_on}
pub use Rattle.block_sim.proofs.RegionLanes.{come_nowhere, crossed, crossed_where, lanes_both}
pub use Rattle.block_sim.proofs.RegionLanes.{lanes_first, lanes_second, passes_is}
pub use Rattle.block_sim.proofs.RegionLanes.{read_within, reader_driven}
pub use Rattle.block_sim.proofs.ObservedStems.{observed_flip}
pub use Rattle.block_sim.proofs.DeadRegions.{dead_class}
-- ---- the start of a fault and its propagation
pub use Rattle.block_sim.proofs.FaultStart.{shown_none, turned_is}
pub use Rattle.block_sim.proofs.PendingGates.{pending_higher, pending_scheduled}
pub use Rattle.block_sim.proofs.PendingGates.{pending_taken}
pub use Rattle.block_sim.proofs.Moments.{large_enough, large_none, large_on, place_within}
